-- A text with a schedule as its outcome spells it.
use Rattle.std.proofs.Common.{◌≡◌, ◌+◌, ◌⊎◌, inl, inr, ℕ, List, [], ◌∷◌, ◌++◌, length, map, filter, true, false, Bool, ◌||◌, nat_lt, nat_le, Option, Some, None, Result, Ok, Err, if◌then◌else◌, refl, sym, subst, ap, ◌∙◌, append_assoc, append-nil}
use Rattle.std.specs.List.{AllByRecursion}
use Rattle.std.specs.Str.{is_utf8}
use Rattle.streams.specs.Lines.{lines_of}
use Rattle.ot_asm.specs.declared.fault.AsmFault.{AsmFault}
use Rattle.ot_isa.specs.Program.{Program, IsProgram, opening, with_instr}
use Rattle.ot_isa.specs.declared.instruction.Instr.{Instr}
use Rattle.ot_isa.specs.declared.instruction.Instr.TheVariants.{Edit, Take, Deliver, Acknowledge, Read, Join, ReadServer}
use Rattle.ot_operation.specs.Operation.{Operation}
use Rattle.ot_json.specs.declared.fault.OpFault.{OpFault}
use Rattle.ot_json.specs.declared.fault.OpFault.TheVariants as op_fault
use Rattle.ot_asm.specs.Words.{trimmed, counts, first_word, after_word, keyword_of}
use Rattle.ot_asm.specs.Numbers.{number}
use Rattle.ot_asm.specs.Stepping.{BodyView, Answer, with_number, at_end, pushed, with_edit, with_start, string_of_text, present_line, counted_line, now_drafted, first_line, line_step, go_on, run, outcome, operation_of_rest, client_line, keyword_line}
use Rattle.ot_asm.specs.Spelling.{SpellsInstr, SpellsInstrs, SpellsStart, SpellsPresent, SpellsLines, Says, Spells, counted}
use Rattle.ot_asm.proofs.Spelled.{fold_lines, chained, extended}
use Rattle.ot_asm.specs.declared.keyword.Keyword.{Keyword}
use Rattle.ot_asm.specs.declared.keyword.Keyword.TheVariants as word
use Rattle.ot_asm.specs.declared.fault.Kind.{Kind}
use Rattle.ot_asm.specs.declared.section.Section.TheVariants.{AfterClients, AfterPresent, InBody}

number_was : (o : Option ℕ) (f : ℕ → Answer) (d : BodyView) → with_number o f ≡ Ok d → (n : ℕ) × (o ≡ Some n) × (f n ≡ Ok d)
number_was None f d e = absurd (cc e)
number_was (Some n) f d e = (n, refl, e)

nothing_more : (rest : List ℕ) (a : Answer) (d : BodyView) → at_end rest a ≡ Ok d → (rest ≡ []) × (a ≡ Ok d)
nothing_more [] a d e = (refl, e)
nothing_more (b ∷ rest) a d e = absurd (cc e)

was_false : (b : Bool) (k : Kind) (a : Answer) (d : BodyView) → (if b then Err k else a) ≡ Ok d → a ≡ Ok d
was_false true k a d e = absurd (cc e)
was_false false k a d e = e

was_true : (b : Bool) (k : Kind) (a : Answer) (d : BodyView) → (if b then a else Err k) ≡ Ok d → a ≡ Ok d
was_true true k a d e = e
was_true false k a d e = absurd (cc e)

abbrev after : Program → Instr → BodyView
after p i = record { section = InBody; program = with_instr p i }

was_pushed : (p : Program) (i : Instr) (d : BodyView) → pushed p i ≡ Ok d → d ≡ after p i
was_pushed p i d e = let same = was_false (nat_le 100000 (length p.instrs)) _ (Ok (after p i)) d e in cc

client_was : (p : Program) (rest : List ℕ) (make : ℕ → Instr) (d : BodyView) → client_line p rest make ≡ Ok d → (c : ℕ) × (number (first_word rest) ≡ Some c) × (after_word rest ≡ []) × (d ≡ after p (make c))
client_was p rest make d e =
    let n = number_was (number (first_word rest)) _ d e in
    let inside = was_true (nat_lt n.0 p.clients) _ (at_end (after_word rest) (pushed p (make n.0))) d n.2 in
    let last = nothing_more (after_word rest) (pushed p (make n.0)) d inside in
    (n.0, n.1, last.0, was_pushed p (make n.0) d last.1)

edit_was : (p : Program) (c : ℕ) (o : Result (Operation ℕ) OpFault) (d : BodyView) → with_edit p c o ≡ Ok d → (op : Operation ℕ) × (o ≡ Ok op) × (d ≡ after p (Edit c op))
edit_was p c (Ok op) d e = (op, refl, was_pushed p (Edit c op) d e)
edit_was p c (Err op_fault.NotJson) d e = absurd (cc e)
edit_was p c (Err op_fault.NotArray) d e = absurd (cc e)
edit_was p c (Err (op_fault.BadComponent i)) d e = absurd (cc e)
edit_was p c (Err op_fault.TooLong) d e = absurd (cc e)
edit_was p c (Err op_fault.Memory) d e = absurd (cc e)

-- the line is an instruction, and the draft has it at its end
abbrev IsInstrLine : Program → List ℕ → BodyView → Type 0
IsInstrLine p l d = (i : Instr) × SpellsInstr l i × (d ≡ after p i)

like_take : (draft : BodyView) (l : List ℕ) (make : ℕ → Instr) (d : BodyView) → client_line draft.program (after_word l) make ≡ Ok d → ((c : ℕ) → number (first_word (after_word l)) ≡ Some c → after_word (after_word l) ≡ [] → SpellsInstr l (make c)) → IsInstrLine draft.program l d
like_take draft l make d e spells =
    let was = client_was draft.program (after_word l) make d e in
    (make was.0, spells was.0 was.1 was.2, was.3)

-- a line below the head, by its keyword
body_line : (p : Program) (l : List ℕ) (d : BodyView) (k : Keyword) → keyword_of (first_word l) ≡ k → keyword_line (record { section = InBody; program = p }) k (after_word l) ≡ Ok d → IsInstrLine p l d
body_line p l d word.Clients k e = absurd (cc e)
body_line p l d word.Present k e = absurd (cc e)
body_line p l d word.Start k e = absurd (cc e)
body_line p l d word.Edit k e =
    let n = number_was (number (first_word (after_word l))) _ d e in
    let inside = was_true (nat_lt n.0 p.clients) _ (with_edit p n.0 (operation_of_rest (after_word (after_word l)))) d n.2 in
    let op = edit_was p n.0 (operation_of_rest (after_word (after_word l))) d inside in
    (Edit n.0 op.0, ((k, n.1, refl), op.1), op.2)
body_line p l d word.Take k e = like_take (record { section = InBody; program = p }) l Take d e (λ c n r. (k, n, r))
body_line p l d word.Deliver k e = like_take (record { section = InBody; program = p }) l Deliver d e (λ c n r. (k, n, r))
body_line p l d word.Acknowledge k e = like_take (record { section = InBody; program = p }) l Acknowledge d e (λ c n r. (k, n, r))
body_line p l d word.Read k e = like_take (record { section = InBody; program = p }) l Read d e (λ c n r. (k, n, r))
body_line p l d word.Join k e = like_take (record { section = InBody; program = p }) l Join d e (λ c n r. (k, n, r))
body_line p l d word.ReadServer k e =
    let last = nothing_more (after_word l) (pushed p ReadServer) d e in
    (ReadServer, (k, last.0), was_pushed p ReadServer d last.1)
body_line p l d word.Other k e = absurd (cc e)

start_was : (p : Program) (o : Option (List ℕ)) (d : BodyView) → with_start p o ≡ Ok d → (cs : List ℕ) × (o ≡ Some cs) × (d ≡ record { section = InBody; program = opening p.clients p.present cs })
start_was p None d e = absurd (cc e)
start_was p (Some cs) d e = let same = was_false (nat_lt 40000 (length cs)) _ (Ok (record { section = InBody; program = opening p.clients p.present cs })) d e in (cs, refl, cc)

-- the line is `start S`
abbrev IsStartLine : Program → List ℕ → BodyView → Type 0
IsStartLine p l d = (cs : List ℕ) × (keyword_of (first_word l) ≡ word.Start) × (string_of_text (after_word l) ≡ Some cs) × (d ≡ record { section = InBody; program = opening p.clients p.present cs })

-- the line is `present P`
abbrev IsPresentLine : Program → List ℕ → BodyView → Type 0
IsPresentLine p l d = (m : ℕ) × Says l word.Present m [] × (d ≡ record { section = AfterPresent; program = opening p.clients m [] })

start_line_was : (p : Program) (l : List ℕ) (d : BodyView) → keyword_of (first_word l) ≡ word.Start → with_start p (string_of_text (after_word l)) ≡ Ok d → IsStartLine p l d
start_line_was p l d k e = let was = start_was p (string_of_text (after_word l)) d e in (was.0, k, was.1, was.2)

low_line : (p : Program) (l : List ℕ) (d : BodyView) (k : Keyword) → keyword_of (first_word l) ≡ k → keyword_line (record { section = AfterPresent; program = p }) k (after_word l) ≡ Ok d → IsStartLine p l d ⊎ IsInstrLine p l d
low_line p l d word.Clients k e = absurd (cc e)
low_line p l d word.Present k e = absurd (cc e)
low_line p l d word.Start k e = inl (start_line_was p l d k e)
low_line p l d word.Edit k e = inr (body_line p l d word.Edit k e)
low_line p l d word.Take k e = inr (body_line p l d word.Take k e)
low_line p l d word.Deliver k e = inr (body_line p l d word.Deliver k e)
low_line p l d word.Acknowledge k e = inr (body_line p l d word.Acknowledge k e)
low_line p l d word.Read k e = inr (body_line p l d word.Read k e)
low_line p l d word.Join k e = inr (body_line p l d word.Join k e)
low_line p l d word.ReadServer k e = inr (body_line p l d word.ReadServer k e)
low_line p l d word.Other k e = absurd (cc e)

present_line_was : (p : Program) (l : List ℕ) (d : BodyView) → keyword_of (first_word l) ≡ word.Present → present_line p (after_word l) ≡ Ok d → IsPresentLine p l d
present_line_was p l d k e =
    let n = number_was (number (first_word (after_word l))) _ d e in
    let inside = was_false (nat_lt p.clients n.0) _ (at_end (after_word (after_word l)) (Ok (record { section = AfterPresent; program = opening p.clients n.0 [] }))) d n.2 in
    let last = nothing_more (after_word (after_word l)) (Ok (record { section = AfterPresent; program = opening p.clients n.0 [] })) d inside in
    (n.0, (k, n.1, last.0), cc)

high_line : (p : Program) (l : List ℕ) (d : BodyView) (k : Keyword) → keyword_of (first_word l) ≡ k → keyword_line (record { section = AfterClients; program = p }) k (after_word l) ≡ Ok d → IsPresentLine p l d ⊎ (IsStartLine p l d ⊎ IsInstrLine p l d)
high_line p l d word.Clients k e = absurd (cc e)
high_line p l d word.Present k e = inl (present_line_was p l d k e)
high_line p l d word.Start k e = inr (inl (start_line_was p l d k e))
high_line p l d word.Edit k e = inr (inr (body_line p l d word.Edit k e))
high_line p l d word.Take k e = inr (inr (body_line p l d word.Take k e))
high_line p l d word.Deliver k e = inr (inr (body_line p l d word.Deliver k e))
high_line p l d word.Acknowledge k e = inr (inr (body_line p l d word.Acknowledge k e))
high_line p l d word.Read k e = inr (inr (body_line p l d word.Read k e))
high_line p l d word.Join k e = inr (inr (body_line p l d word.Join k e))
high_line p l d word.ReadServer k e = inr (inr (body_line p l d word.ReadServer k e))
high_line p l d word.Other k e = absurd (cc e)

step_was : (draft : Option BodyView) (l : List ℕ) (ls : List (List ℕ)) (d : BodyView) → fold_lines draft (l ∷ ls) ≡ Ok (Some d) → (next : BodyView) × (counted_line draft l ≡ Ok next) × (fold_lines (Some next) ls ≡ Ok (Some d))
step_was draft l ls d e = by (counted_line draft l) refl e
  where
    by : (a : Answer) → counted_line draft l ≡ a → chained (now_drafted a) (λ d. fold_lines d ls) ≡ Ok (Some d) → (next : BodyView) × (counted_line draft l ≡ Ok next) × (fold_lines (Some next) ls ≡ Ok (Some d))
    by (Ok next) same f = (next, same, f)
    by (Err k) same f = absurd (cc f)

body_lines : (ls : List (List ℕ)) (p : Program) (d : BodyView) → fold_lines (Some (record { section = InBody; program = p })) ls ≡ Ok (Some d) → (is : List Instr) × SpellsInstrs ls is × (d.program ≡ extended p is)
body_lines [] p d e =
    let same : d ≡ record { section = InBody; program = p } = cc in
    ([], tt, ap (λ (x : BodyView). x.program) same ∙ ap (λ x. record p { instrs = x }) (sym (append-nil p.instrs)))
body_lines (l ∷ ls) p d e =
    let step = step_was (Some (record { section = InBody; program = p })) l ls d e in
    let line = body_line p l step.0 (keyword_of (first_word l)) refl step.1 in
    let rest = body_lines ls (with_instr p line.0) d (subst (λ (x : BodyView). fold_lines (Some x) ls ≡ Ok (Some d)) line.2 step.2) in
    (line.0 ∷ rest.0, (line.1, rest.1), rest.2 ∙ ap (λ x. record p { instrs = x }) (append_assoc p.instrs (line.0 ∷ []) rest.0))

-- what the lines below `clients` and `present` spell
abbrev LowIs : List (List ℕ) → ℕ → ℕ → BodyView → Type 0
LowIs ls n m d = SpellsStart ls d.program.start d.program.instrs × (d.program.clients ≡ n) × (d.program.present ≡ m)

from_body : (ls : List (List ℕ)) (p : Program) (d : BodyView) → fold_lines (Some (record { section = InBody; program = p })) ls ≡ Ok (Some d) → p.instrs ≡ [] → SpellsInstrs ls d.program.instrs × (d.program.start ≡ p.start) × (d.program.clients ≡ p.clients) × (d.program.present ≡ p.present)
from_body ls p d e none =
    let was = body_lines ls p d e in
    let instrs : d.program.instrs ≡ was.0 = ap (λ (x : Program). x.instrs) was.2 ∙ ap (λ (x : List Instr). x ++ was.0) none in
    (subst (λ (x : List Instr). SpellsInstrs ls x) (sym instrs) was.1, ap (λ (x : Program). x.start) was.2, ap (λ (x : Program). x.clients) was.2, ap (λ (x : Program). x.present) was.2)

-- a first line that is an instruction
from_instr : (l : List ℕ) (ls : List (List ℕ)) (n m : ℕ) (next d : BodyView) → IsInstrLine (opening n m []) l next → fold_lines (Some next) ls ≡ Ok (Some d) → SpellsInstrs (l ∷ ls) d.program.instrs × (d.program.start ≡ []) × (d.program.clients ≡ n) × (d.program.present ≡ m)
from_instr l ls n m next d line e =
    let was = body_lines ls (with_instr (opening n m []) line.0) d (subst (λ (x : BodyView). fold_lines (Some x) ls ≡ Ok (Some d)) line.2 e) in
    (subst (λ (x : List Instr). SpellsInstrs (l ∷ ls) x) (sym (ap (λ (x : Program). x.instrs) was.2)) (line.1, was.1), ap (λ (x : Program). x.start) was.2, ap (λ (x : Program). x.clients) was.2, ap (λ (x : Program). x.present) was.2)

from_text : (l : List ℕ) (ls : List (List ℕ)) (n m : ℕ) (next d : BodyView) → IsStartLine (opening n m []) l next → fold_lines (Some next) ls ≡ Ok (Some d) → LowIs (l ∷ ls) n m d
from_text l ls n m next d line e =
    let was = from_body ls (opening n m line.0) d (subst (λ (x : BodyView). fold_lines (Some x) ls ≡ Ok (Some d)) line.3 e) refl in
    (inl (line.1, line.2 ∙ ap (λ x. Some x) (sym was.1), was.0), was.2, was.3)

low : (ls : List (List ℕ)) (n m : ℕ) (d : BodyView) → fold_lines (Some (record { section = AfterPresent; program = opening n m [] })) ls ≡ Ok (Some d) → LowIs ls n m d
low [] n m d e =
    let same : d ≡ record { section = AfterPresent; program = opening n m [] } = cc in
    ((ap (λ (x : BodyView). x.program.start) same, ap (λ (x : BodyView). x.program.instrs) same), ap (λ (x : BodyView). x.program.clients) same, ap (λ (x : BodyView). x.program.present) same)
low (l ∷ ls) n m d e = by (low_line (opening n m []) l step.0 (keyword_of (first_word l)) refl step.1)
  where
    step : (next : BodyView) × (counted_line (Some (record { section = AfterPresent; program = opening n m [] })) l ≡ Ok next) × (fold_lines (Some next) ls ≡ Ok (Some d))
    step = step_was (Some (record { section = AfterPresent; program = opening n m [] })) l ls d e

    by : IsStartLine (opening n m []) l step.0 ⊎ IsInstrLine (opening n m []) l step.0 → LowIs (l ∷ ls) n m d
    by (inl line) = from_text l ls n m step.0 d line step.2
    by (inr line) = let was = from_instr l ls n m step.0 d line step.2 in (inr (was.1, was.0), was.2, was.3)

high : (ls : List (List ℕ)) (n : ℕ) (d : BodyView) → fold_lines (Some (record { section = AfterClients; program = opening n n [] })) ls ≡ Ok (Some d) → SpellsPresent ls d.program × (d.program.clients ≡ n)
high [] n d e =
    let same : d ≡ record { section = AfterClients; program = opening n n [] } = cc in
    let clients : d.program.clients ≡ n = ap (λ (x : BodyView). x.program.clients) same in
    let present : d.program.present ≡ n = ap (λ (x : BodyView). x.program.present) same in
    ((present ∙ sym clients, (ap (λ (x : BodyView). x.program.start) same, ap (λ (x : BodyView). x.program.instrs) same)), clients)
high (l ∷ ls) n d e = by (high_line (opening n n []) l step.0 (keyword_of (first_word l)) refl step.1)
  where
    step : (next : BodyView) × (counted_line (Some (record { section = AfterClients; program = opening n n [] })) l ≡ Ok next) × (fold_lines (Some next) ls ≡ Ok (Some d))
    step = step_was (Some (record { section = AfterClients; program = opening n n [] })) l ls d e

    by : IsPresentLine (opening n n []) l step.0 ⊎ (IsStartLine (opening n n []) l step.0 ⊎ IsInstrLine (opening n n []) l step.0) → SpellsPresent (l ∷ ls) d.program × (d.program.clients ≡ n)
    by (inl line) =
        let was = low ls n line.0 d (subst (λ (x : BodyView). fold_lines (Some x) ls ≡ Ok (Some d)) line.2 step.2) in
        (inl (subst (λ (x : ℕ). Says l word.Present x []) (sym was.2) line.1, was.0), was.1)
    by (inr (inl line)) = let was = from_text l ls n n step.0 d line step.2 in (inr (was.2 ∙ sym was.1, was.0), was.1)
    by (inr (inr line)) = let was = from_instr l ls n n step.0 d line step.2 in (inr (was.3 ∙ sym was.2, inr (was.1, was.0)), was.2)

first_was : (l : List ℕ) (d : BodyView) (k : Keyword) → keyword_of (first_word l) ≡ k → first_line k (after_word l) ≡ Ok d → (n : ℕ) × Says l word.Clients n [] × (d ≡ record { section = AfterClients; program = opening n n [] })
first_was l d word.Clients k e =
    let n = number_was (number (first_word (after_word l))) _ d e in
    let inside = was_false (nat_lt n.0 1 || nat_lt 64 n.0) _ (at_end (after_word (after_word l)) (Ok (record { section = AfterClients; program = opening n.0 n.0 [] }))) d n.2 in
    let last = nothing_more (after_word (after_word l)) (Ok (record { section = AfterClients; program = opening n.0 n.0 [] })) d inside in
    (n.0, (k, n.1, last.0), cc)
first_was l d word.Present k e = absurd (cc e)
first_was l d word.Start k e = absurd (cc e)
first_was l d word.Edit k e = absurd (cc e)
first_was l d word.Take k e = absurd (cc e)
first_was l d word.Deliver k e = absurd (cc e)
first_was l d word.Acknowledge k e = absurd (cc e)
first_was l d word.Read k e = absurd (cc e)
first_was l d word.Join k e = absurd (cc e)
first_was l d word.ReadServer k e = absurd (cc e)
first_was l d word.Other k e = absurd (cc e)

lines_spell : (ls : List (List ℕ)) (d : BodyView) → fold_lines None ls ≡ Ok (Some d) → SpellsLines ls d.program
lines_spell [] d e = absurd (cc e)
lines_spell (l ∷ ls) d e =
    let step = step_was None l ls d e in
    let first = first_was l step.0 (keyword_of (first_word l)) refl step.1 in
    let rest = high ls first.0 d (subst (λ (x : BodyView). fold_lines (Some x) ls ≡ Ok (Some d)) first.2 step.2) in
    (subst (λ (x : ℕ). Says l word.Clients x []) (sym rest.1) first.1, rest.0)

-- the lines that count give what all lines give
counted_was : (ls : List (List ℕ)) (line : ℕ) (draft next : Option BodyView) → run line draft ls ≡ Ok next → AllByRecursion (λ l. is_utf8 l ≡ true) ls × (fold_lines draft (filter counts (map trimmed ls)) ≡ Ok next)
unfolding run line_step
counted_was [] line draft next e = let same : draft ≡ next = cc in (tt, ap (λ d. Ok d) same)
counted_was (l ∷ ls) line draft next e = by (λ d f. counted_was ls (line + 1) d next f) (is_utf8 l) refl (counts (trimmed l)) refl
  where
    below : ((d : Option BodyView) → run (line + 1) d ls ≡ Ok next → AllByRecursion (λ l. is_utf8 l ≡ true) ls × (fold_lines d (filter counts (map trimmed ls)) ≡ Ok next)) → (answer : Result (Option BodyView) Kind) → go_on line answer (λ d. run (line + 1) d ls) ≡ Ok next → AllByRecursion (λ l. is_utf8 l ≡ true) ls × (chained answer (λ d. fold_lines d (filter counts (map trimmed ls))) ≡ Ok next)
    below again (Ok d) f = again d f
    below again (Err k) f = absurd (cc f)

    by : ((d : Option BodyView) → run (line + 1) d ls ≡ Ok next → AllByRecursion (λ l. is_utf8 l ≡ true) ls × (fold_lines d (filter counts (map trimmed ls)) ≡ Ok next)) → (u : Bool) → is_utf8 l ≡ u → (b : Bool) → counts (trimmed l) ≡ b → ((is_utf8 l ≡ true) × AllByRecursion (λ l. is_utf8 l ≡ true) ls) × (fold_lines draft (filter counts (map trimmed (l ∷ ls))) ≡ Ok next)
    by again false u b c = let f = rw u at e in absurd (cc f)
    by again true u true c = let f = rw (u, c) at e in let was = below again (now_drafted (counted_line draft (trimmed l))) f in ((u, was.0), rw c was.1)
    by again true u false c = let f = rw (u, c) at e in let was = again draft f in ((u, was.0), rw c was.1)

pub spells : (t : List ℕ) (s : Program) → outcome t ≡ Ok s → IsProgram s → Spells t s
spells t s e p = by (run 1 None (lines_of t)) refl
  where
    by : (r : Result (Option BodyView) AsmFault) → run 1 None (lines_of t) ≡ r → Spells t s
    by (Ok None) f = absurd (let g = rw f at e in cc g)
    by (Ok (Some d)) f =
        let g = rw f at e in
        let same : d.program ≡ s = cc g in
        let was = counted_was (lines_of t) 1 None (Some d) f in
        (was.0, subst (λ (x : Program). SpellsLines (counted t) x) same (lines_spell (counted t) d was.1), p)
    by (Err k) f = absurd (let g = rw f at e in cc g)
