-- A text that spells a schedule has this schedule as its outcome.
use Rattle.std.proofs.Common.{◌≡◌, ◌+◌, ◌<◌, ◌≤◌, inl, inr, ℕ, List, [], ◌∷◌, ◌++◌, length, map, filter, true, false, Bool, nat_lt, nat_le, Option, Some, None, Result, Ok, Err, if◌then◌else◌, refl, sym, subst, ap, ◌∙◌, arith, append_assoc, append-nil, length-append}
use Rattle.std.specs.List.{All, AllByRecursion}
use Rattle.std.specs.Str.{is_utf8}
use Rattle.std.proofs.lemmas.Bool.{lt-ltb, le-ltb, lt-leb}
use Rattle.std.proofs.lemmas.List.Elements.{All-head, All-tail}
use Rattle.ot_isa.specs.Program.{Program, opening, with_instr, IsForClients, IsInstr, IsProgram}
use Rattle.ot_isa.specs.declared.instruction.Instr.{Instr}
use Rattle.ot_isa.specs.declared.instruction.Instr.TheVariants.{Edit, Take, Deliver, Acknowledge, Read, Join, ReadServer}
use Rattle.streams.specs.Lines.{lines_of}
use Rattle.ot_asm.specs.Words.{trimmed, counts, first_word, after_word}
use Rattle.ot_asm.specs.Numbers.{number}
use Rattle.ot_asm.specs.Stepping.{BodyView, string_of_text, pushed, client_line, start_at, start_line, counted_line, now_drafted, line_step, go_on, run, outcome}
use Rattle.ot_asm.specs.Spelling.{SpellsInstr, SpellsInstrs, SpellsStart, SpellsPresent, SpellsLines, counted, Spells}
use Rattle.ot_asm.specs.declared.fault.Kind.{Kind}
use Rattle.ot_asm.specs.declared.section.Section.{Section}
use Rattle.ot_asm.specs.declared.section.Section.TheVariants.{AfterClients, AfterPresent, InBody}

-- the lines that count, one after another
abbrev pub chained : Result (Option BodyView) Kind → (Option BodyView → Result (Option BodyView) Kind) → Result (Option BodyView) Kind
chained (Ok draft) below = below draft
chained (Err kind) below = Err kind

abbrev pub fold_lines : Option BodyView → List (List ℕ) → Result (Option BodyView) Kind
fold_lines draft [] = Ok draft
fold_lines draft (l ∷ ls) = chained (now_drafted (counted_line draft l)) (λ d. fold_lines d ls)

abbrev with_line : Bool → List ℕ → List (List ℕ) → List (List ℕ)
with_line true l ls = l ∷ ls
with_line false l ls = ls

pub run_counted : (ls : List (List ℕ)) (line : ℕ) (draft next : Option BodyView) → AllByRecursion (λ l. is_utf8 l ≡ true) ls → fold_lines draft (filter counts (map trimmed ls)) ≡ Ok next → run line draft ls ≡ Ok next
unfolding run line_step
run_counted [] line draft next u e = let same : draft ≡ next = cc in ap (λ d. Ok d) same
run_counted (l ∷ ls) line draft next u e = rw u.0 (by (λ d f. run_counted ls (line + 1) d next u.1 f) (counts (trimmed l)) refl)
  where
    below : ((d : Option BodyView) → fold_lines d (filter counts (map trimmed ls)) ≡ Ok next → run (line + 1) d ls ≡ Ok next) → (answer : Result (Option BodyView) Kind) → chained answer (λ d. fold_lines d (filter counts (map trimmed ls))) ≡ Ok next → go_on line answer (λ d. run (line + 1) d ls) ≡ Ok next
    below again (Ok d) f = again d f
    below again (Err k) f = absurd (cc f)

    by : ((d : Option BodyView) → fold_lines d (filter counts (map trimmed ls)) ≡ Ok next → run (line + 1) d ls ≡ Ok next) → (b : Bool) → counts (trimmed l) ≡ b → go_on line (if counts (trimmed l) then now_drafted (counted_line draft (trimmed l)) else Ok draft) (λ d. run (line + 1) d ls) ≡ Ok next
    by again true c = rw c (below again (now_drafted (counted_line draft (trimmed l))) (rw c at e))
    by again false c = rw c (again draft (rw c at e))

push_ok : (p : Program) (i : Instr) → length p.instrs < 100000 → pushed p i ≡ Ok (record { section = InBody; program = with_instr p i })
push_ok p i h = let few : nat_le 100000 (length p.instrs) ≡ false = lt-leb 100000 (length p.instrs) h in rw few refl

client_ok : (p : Program) (rest : List ℕ) (make : ℕ → Instr) (c : ℕ) → number (first_word rest) ≡ Some c → c < p.clients → after_word rest ≡ [] → length p.instrs < 100000 → client_line p rest make ≡ Ok (record { section = InBody; program = with_instr p (make c) })
client_ok p rest make c n below done few =
    let test : nat_lt c p.clients ≡ true = lt-ltb c p.clients below in
    rw (n, test, done) (push_ok p (make c) few)

one_instr : (draft : BodyView) (l : List ℕ) (i : Instr) → SpellsInstr l i → IsForClients draft.program.clients i → length draft.program.instrs < 100000 → counted_line (Some draft) l ≡ Ok (record { section = InBody; program = with_instr draft.program i })
one_instr draft l (Edit c op) h below few =
    let test : nat_lt c draft.program.clients ≡ true = lt-ltb c draft.program.clients below in
    rw (h.0.0, h.0.1, test, h.1) (push_ok draft.program (Edit c op) few)
one_instr draft l (Take c) h below few = rw h.0 (client_ok draft.program (after_word l) Take c h.1 below h.2 few)
one_instr draft l (Deliver c) h below few = rw h.0 (client_ok draft.program (after_word l) Deliver c h.1 below h.2 few)
one_instr draft l (Acknowledge c) h below few = rw h.0 (client_ok draft.program (after_word l) Acknowledge c h.1 below h.2 few)
one_instr draft l (Read c) h below few = rw h.0 (client_ok draft.program (after_word l) Read c h.1 below h.2 few)
one_instr draft l (Join c) h below few = rw h.0 (client_ok draft.program (after_word l) Join c h.1 below h.2 few)
one_instr draft l ReadServer h below few = rw (h.0, h.1) (push_ok draft.program ReadServer few)

abbrev pub extended : Program → List Instr → Program
extended p is = record p { instrs = p.instrs ++ is }

-- the lines give a draft of this schedule
abbrev Gives : BodyView → List (List ℕ) → Program → Type 0
Gives draft ls s = (d : BodyView) × (fold_lines (Some draft) ls ≡ Ok (Some d)) × (d.program ≡ s)

all_instrs : (ls : List (List ℕ)) (is : List Instr) (draft : BodyView) → SpellsInstrs ls is → AllByRecursion (IsForClients draft.program.clients) is → length draft.program.instrs + length is ≤ 100000 → Gives draft ls (extended draft.program is)
all_instrs [] [] draft h c few = (draft, refl, ap (λ x. record draft.program { instrs = x }) (sym (append-nil draft.program.instrs)))
all_instrs [] (i ∷ is) draft h c few = absurd h
all_instrs (l ∷ ls) [] draft h c few = absurd h
all_instrs (l ∷ ls) (i ∷ is) draft h c few =
    let next : BodyView = record { section = InBody; program = with_instr draft.program i } in
    let rest : Gives next ls (extended next.program is) = all_instrs ls is next h.1 c.1 (omega (arith, few, length-append draft.program.instrs (i ∷ []))) in
    (rest.0, rw (one_instr draft l i h.0 c.0 (omega (arith, few))) rest.1, rest.2 ∙ ap (λ x. record draft.program { instrs = x }) (append_assoc draft.program.instrs (i ∷ []) is))

start_ok : (p : Program) (rest start : List ℕ) → string_of_text rest ≡ Some start → length start ≤ 40000 → start_line p rest ≡ Ok (record { section = InBody; program = opening p.clients p.present start })
start_ok p rest start e few = let test : nat_lt 40000 (length start) ≡ false = le-ltb 40000 (length start) few in rw (e, test) refl

-- what the head of a schedule asks of the lines below its first two
from_start : (ls : List (List ℕ)) (place : Section) (s : Program) → ((rest : List ℕ) → start_at place (opening s.clients s.present []) rest ≡ start_line (opening s.clients s.present []) rest) → SpellsStart ls s.start s.instrs → AllByRecursion (IsForClients s.clients) s.instrs → length s.start ≤ 40000 → length s.instrs ≤ 100000 → Gives (record { section = place; program = opening s.clients s.present [] }) ls s
from_start [] place s may h c few_chars few = (record { section = place; program = opening s.clients s.present [] }, refl, ap (λ t. record s { start = t; instrs = [] }) (sym h.0) ∙ ap (λ t. record s { instrs = t }) (sym h.1))
from_start (l ∷ ls) place s may (inl h) c few_chars few =
    let next : BodyView = record { section = InBody; program = opening s.clients s.present s.start } in
    let rest : Gives next ls (extended next.program s.instrs) = all_instrs ls s.instrs next h.2 c (omega (arith, few)) in
    (rest.0, rw (h.0, may (after_word l), start_ok (opening s.clients s.present []) (after_word l) s.start h.1 few_chars) rest.1, rest.2)
from_start (l ∷ ls) place s may (inr h) c few_chars few =
    let draft : BodyView = record { section = place; program = opening s.clients s.present [] } in
    let rest : Gives draft (l ∷ ls) (extended draft.program s.instrs) = all_instrs (l ∷ ls) s.instrs draft h.1 c (omega (arith, few)) in
    (rest.0, rest.1, rest.2 ∙ ap (λ t. record s { start = t }) (sym h.0))

from_present : (ls : List (List ℕ)) (s : Program) → SpellsPresent ls s → s.present ≤ s.clients → AllByRecursion (IsForClients s.clients) s.instrs → length s.start ≤ 40000 → length s.instrs ≤ 100000 → Gives (record { section = AfterClients; program = opening s.clients s.clients [] }) ls s
from_present [] s h small c few_chars few =
    subst (λ (m : ℕ). Gives (record { section = AfterClients; program = opening s.clients m [] }) [] s) h.0 (from_start [] AfterClients s (λ rest. refl) h.1 c few_chars few)
from_present (l ∷ ls) s (inl h) small c few_chars few =
    let test : nat_lt s.clients s.present ≡ false = le-ltb s.clients s.present small in
    let rest = from_start ls AfterPresent s (λ rest. refl) h.1 c few_chars few in
    (rest.0, rw (h.0.0, h.0.1, test, h.0.2) rest.1, rest.2)
from_present (l ∷ ls) s (inr h) small c few_chars few =
    subst (λ (m : ℕ). Gives (record { section = AfterClients; program = opening s.clients m [] }) (l ∷ ls) s) h.0 (from_start (l ∷ ls) AfterClients s (λ rest. refl) h.1 c few_chars few)

all_for : (n : ℕ) (is : List Instr) → All (IsInstr n) is → AllByRecursion (IsForClients n) is
all_for n [] h = tt
all_for n (i ∷ is) h = ((All-head (IsInstr n) i is h).0, all_for n is (All-tail (IsInstr n) i is h))

from_lines : (ls : List (List ℕ)) (s : Program) → SpellsLines ls s → IsProgram s → (d : BodyView) × (fold_lines None ls ≡ Ok (Some d)) × (d.program ≡ s)
from_lines [] s h p = absurd h
from_lines (l ∷ ls) s h p =
    let some : nat_lt s.clients 1 ≡ false = le-ltb s.clients 1 p.clients_from in
    let few : nat_lt 64 s.clients ≡ false = le-ltb 64 s.clients p.clients_to in
    let rest = from_present ls s h.1 p.present_to (all_for s.clients s.instrs p.instrs_are) p.start_fits p.instrs_fit in
    (rest.0, rw (h.0.0, h.0.1, some, few, h.0.2) rest.1, rest.2)

pub spelled : (t : List ℕ) (s : Program) → Spells t s → outcome t ≡ Ok s
spelled t s h =
    let given = from_lines (counted t) s h.1 h.2 in
    let all = run_counted (lines_of t) 1 None (Some given.0) h.0 given.1 in
    rw all (ap (λ p. Ok p) given.2)

-- a text spells at most one schedule
pub at_most_one : (t : List ℕ) (s r : Program) → Spells t s → Spells t r → s ≡ r
at_most_one t s r h g = let p = spelled t s h in let q = spelled t r g in cc
