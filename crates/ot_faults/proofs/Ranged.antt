-- Which numbers ot_asm takes behind the first word of a line.
use Rattle.std.proofs.Common.{◌≡◌, ◌<◌, ◌∙◌, ◌+◌, ◌-◌, ℕ, Bool, true, false, ◌&&◌, ◌||◌, nat_le, nat_lt, List, [], ◌∷◌, length, Option, None, Some, Result, Ok, Err, refl, sym, ap, arith}
use Rattle.std.specs.Prelude.{⊤, if◌then◌else◌, take}
use Rattle.std.specs.Str.{is_utf8}
use Rattle.ot_operation.specs.Operation.{Operation}
use Rattle.ot_isa.specs.Program.{Program, opening, with_instr}
use Rattle.ot_isa.specs.declared.instruction.Instr.{Instr}
use Rattle.ot_isa.specs.declared.instruction.Instr.TheVariants as instr
use Rattle.ot_json.specs.declared.fault.OpFault.{OpFault}
use Rattle.ot_json.specs.declared.fault.OpFault.TheVariants as op_fault
use Rattle.ot_asm.specs.Numbers.{number}
use Rattle.ot_asm.specs.Stepping.{Answer, BodyView, at_end, client_line, clients_line, counted_line, drafted, edit_line, first_line, go_on, keyword_line, line_step, now_drafted, operation_of_rest, present_at, present_line, pushed, run, with_client, with_edit, with_number}
use Rattle.ot_asm.specs.Words.{after_word, counts, first_word, keyword_of, trimmed}
use Rattle.ot_asm.specs.declared.fault.Kind.{Kind}
use Rattle.ot_asm.specs.declared.fault.Kind.TheVariants.{BadClient, BadText, TooMany}
use Rattle.ot_asm.specs.declared.section.Section.{Section}
use Rattle.ot_asm.specs.declared.section.Section.TheVariants as section
use Rattle.ot_faults.specs.Faults.{range_of}
use Rattle.ot_faults.specs.Laws.{NumbersAreTaken, has_number, is_in, reached_of, takes_number, takes_word}
use Rattle.ot_faults.specs.declared.reached.Reached.{Reached}
use Rattle.ot_faults.specs.declared.wanted.Wanted.TheVariants as wanted
use Rattle.ot_faults.proofs.Taken.{Spelled, by_section, is_ack, is_clients, is_deliver, is_edit, is_join, is_other, is_present, is_read, is_server, is_start, is_take, spelled}
use Rattle.ot_faults.proofs.Made.{counted_made, same_clients, stages_made}

-- ---- there is a client

abbrev Positive : Option BodyView → Type 0
Positive None = ⊤
Positive (Some draft) = 0 < draft.program.clients

abbrev HasSome : Answer → Type 0
HasSome (Ok draft) = 0 < draft.program.clients
HasSome (Err kind) = ⊤

some_at_end : (rest : List ℕ) (answer : Answer) → HasSome answer → HasSome (at_end rest answer)
some_at_end [] answer h = h
some_at_end (b ∷ bs) answer h = tt

some_clients : (rest : List ℕ) → HasSome (clients_line rest)
some_clients rest = of_number (number (first_word rest))
  where
    by : (k : ℕ) (wrong : Bool) → (nat_lt k 1 || nat_lt 64 k) ≡ wrong → HasSome (if wrong then Err BadClient else at_end (after_word rest) (drafted section.AfterClients (opening k k [])))
    by k true e = tt
    by k false e = some_at_end (after_word rest) (drafted section.AfterClients (opening k k [])) (grind arith)

    of_number : (o : Option ℕ) → HasSome (with_number o (λ n. if nat_lt n 1 || nat_lt 64 n then Err BadClient else at_end (after_word rest) (drafted section.AfterClients (opening n n []))))
    of_number None = tt
    of_number (Some k) = by k (nat_lt k 1 || nat_lt 64 k) refl

some_first : (w rest : List ℕ) → Spelled w → HasSome (first_line (keyword_of w) rest)
some_first w rest (is_clients e) = rw e (some_clients rest)
some_first w rest (is_present e) = rw e tt
some_first w rest (is_start e) = rw e tt
some_first w rest (is_edit e) = rw e tt
some_first w rest (is_take e) = rw e tt
some_first w rest (is_deliver e) = rw e tt
some_first w rest (is_ack e) = rw e tt
some_first w rest (is_read e) = rw e tt
some_first w rest (is_join e) = rw e tt
some_first w rest (is_server e) = rw e tt
some_first w rest (is_other o) = rw (o.clients, o.present, o.start, o.edit, o.take, o.deliver, o.ack, o.read, o.join, o.server) tt

some_made : (answer : Answer) (after : Option BodyView) → HasSome answer → now_drafted answer ≡ Ok after → Positive after
some_made (Ok draft) after h e = let same : Some draft ≡ after = cc in rw (sym same) h
some_made (Err kind) after h e = absurd (cc e)

same_positive : (clients : ℕ) (after : Option BodyView) → 0 < clients → clients ≡ (reached_of after).clients → Positive after
same_positive clients None h e = tt
same_positive clients (Some draft) h e = rw (sym e) h

counted_positive : (draft after : Option BodyView) (line : List ℕ) → Positive draft → now_drafted (counted_line draft line) ≡ Ok after → Positive after
counted_positive None after line h e = some_made (counted_line None line) after (some_first (first_word line) (after_word line) (spelled (first_word line))) e
counted_positive (Some draft) after line h e =
    same_positive draft.program.clients after h
    (same_clients draft.section draft.program.clients line ∙ ap (λ (r : Reached). r.clients) (counted_made (Some draft) after line e))

step_positive : (draft after : Option BodyView) (line : List ℕ) → Positive draft → line_step draft line ≡ Ok after → Positive after
unfolding line_step
step_positive draft after line h e = by (is_utf8 line) (counts (trimmed line)) e
  where
    by : (text some : Bool) → (if text then (if some then now_drafted (counted_line draft (trimmed line)) else Ok draft) else Err BadText) ≡ Ok after → Positive after
    by false some is = absurd (cc is)
    by true false is = let same : draft ≡ after = cc in rw (sym same) h
    by true true is = counted_positive draft after (trimmed line) h is

all_positive : (lines : List (List ℕ)) (line : ℕ) (draft after : Option BodyView) → Positive draft → run line draft lines ≡ Ok after → Positive after
unfolding run
all_positive [] line draft after h e = let same : draft ≡ after = cc in rw (sym same) h
all_positive (l ∷ ls) line draft after h e = by (λ next p ok. all_positive ls (line + 1) next after p ok) (line_step draft l) refl e
  where
    by : ((next : Option BodyView) → Positive next → run (line + 1) next ls ≡ Ok after → Positive after) → (r : Result (Option BodyView) Kind) → line_step draft l ≡ r
        → go_on line r (λ next. run (line + 1) next ls) ≡ Ok after → Positive after
    by below (Ok next) is ok = below next (step_positive draft next l h is) ok
    by below (Err kind) is ok = absurd (cc ok)

-- ---- the faults behind the number

abbrev takes : Answer → Bool
takes answer = takes_word (now_drafted answer)

abbrev counted : Answer → Bool
counted answer = takes_number (now_drafted answer)

counted_end : (rest : List ℕ) (answer : Answer) → counted answer ≡ true → counted (at_end rest answer) ≡ true
counted_end [] answer e = e
counted_end (b ∷ bs) answer e = refl

counted_pushed : (program : Program) (i : Instr) → counted (pushed program i) ≡ true
counted_pushed program i = by (nat_le 100000 (length program.instrs))
  where
    by : (full : Bool) → counted (if full then Err TooMany else drafted section.InBody (with_instr program i)) ≡ true
    by true = refl
    by false = refl

counted_operation : (program : Program) (client : ℕ) (op : Result (Operation ℕ) OpFault) → counted (with_edit program client op) ≡ true
counted_operation program client (Ok op) = counted_pushed program (instr.Edit client op)
counted_operation program client (Err op_fault.NotJson) = refl
counted_operation program client (Err op_fault.NotArray) = refl
counted_operation program client (Err (op_fault.BadComponent i)) = refl
counted_operation program client (Err op_fault.TooLong) = refl
counted_operation program client (Err op_fault.Memory) = refl

-- a client's number
below_all : (k clients : ℕ) → 0 < clients → nat_lt k clients ≡ true → true ≡ (nat_le 0 k && nat_le k (clients - 1))
below_all k clients some e = grind arith

not_below : (k clients : ℕ) → 0 < clients → nat_lt k clients ≡ false → false ≡ (nat_le 0 k && nat_le k (clients - 1))
not_below k clients some e = grind arith

counted_client : (clients : ℕ) (rest : List ℕ) (then_do : ℕ → Answer) → 0 < clients → ((k : ℕ) → counted (then_do k) ≡ true)
    → counted (with_client clients rest then_do) ≡ is_in (wanted.Number 0 (clients - 1)) (number (first_word rest))
counted_client clients rest then_do some h = of_number (number (first_word rest))
  where
    by : (k : ℕ) (known : Bool) → nat_lt k clients ≡ known → counted (if known then then_do k else Err BadClient) ≡ (nat_le 0 k && nat_le k (clients - 1))
    by k true e = h k ∙ below_all k clients some e
    by k false e = not_below k clients some e

    of_number : (o : Option ℕ) → counted (with_number o (λ client. if nat_lt client clients then then_do client else Err BadClient)) ≡ is_in (wanted.Number 0 (clients - 1)) o
    of_number None = refl
    of_number (Some k) = by k (nat_lt k clients) refl

counted_edit : (program : Program) (rest : List ℕ) → 0 < program.clients → counted (edit_line program rest) ≡ is_in (wanted.Number 0 (program.clients - 1)) (number (first_word rest))
counted_edit program rest some =
    counted_client program.clients rest (λ client. with_edit program client (operation_of_rest (after_word rest))) some (λ k. counted_operation program k (operation_of_rest (after_word rest)))

counted_one : (program : Program) (rest : List ℕ) (make : ℕ → Instr) → 0 < program.clients → counted (client_line program rest make) ≡ is_in (wanted.Number 0 (program.clients - 1)) (number (first_word rest))
counted_one program rest make some =
    counted_client program.clients rest (λ client. at_end (after_word rest) (pushed program (make client))) some
    (λ k. counted_end (after_word rest) (pushed program (make k)) (counted_pushed program (make k)))

-- how many are present
too_many : (k clients : ℕ) → nat_lt clients k ≡ true → false ≡ (nat_le 0 k && nat_le k clients)
too_many k clients e = grind arith

not_too_many : (k clients : ℕ) → nat_lt clients k ≡ false → true ≡ (nat_le 0 k && nat_le k clients)
not_too_many k clients e = grind arith

counted_present : (program : Program) (rest : List ℕ) → counted (present_line program rest) ≡ is_in (wanted.Number 0 program.clients) (number (first_word rest))
counted_present program rest = of_number (number (first_word rest))
  where
    by : (k : ℕ) (many : Bool) → nat_lt program.clients k ≡ many
        → counted (if many then Err BadClient else at_end (after_word rest) (drafted section.AfterPresent (opening program.clients k []))) ≡ (nat_le 0 k && nat_le k program.clients)
    by k true e = too_many k program.clients e
    by k false e = counted_end (after_word rest) (drafted section.AfterPresent (opening program.clients k [])) refl ∙ not_too_many k program.clients e

    of_number : (o : Option ℕ) → counted (with_number o (λ n. if nat_lt program.clients n then Err BadClient else at_end (after_word rest) (drafted section.AfterPresent (opening program.clients n []))))
        ≡ is_in (wanted.Number 0 program.clients) o
    of_number None = refl
    of_number (Some k) = by k (nat_lt program.clients k) refl

-- how many clients there are
out_of : (k : ℕ) → (nat_lt k 1 || nat_lt 64 k) ≡ true → false ≡ (nat_le 1 k && nat_le k 64)
out_of k e = grind arith

not_out_of : (k : ℕ) → (nat_lt k 1 || nat_lt 64 k) ≡ false → true ≡ (nat_le 1 k && nat_le k 64)
not_out_of k e = grind arith

counted_clients : (rest : List ℕ) → counted (clients_line rest) ≡ is_in (wanted.Number 1 64) (number (first_word rest))
counted_clients rest = of_number (number (first_word rest))
  where
    by : (k : ℕ) (wrong : Bool) → (nat_lt k 1 || nat_lt 64 k) ≡ wrong
        → counted (if wrong then Err BadClient else at_end (after_word rest) (drafted section.AfterClients (opening k k []))) ≡ (nat_le 1 k && nat_le k 64)
    by k true e = out_of k e
    by k false e = counted_end (after_word rest) (drafted section.AfterClients (opening k k [])) refl ∙ not_out_of k e

    of_number : (o : Option ℕ) → counted (with_number o (λ n. if nat_lt n 1 || nat_lt 64 n then Err BadClient else at_end (after_word rest) (drafted section.AfterClients (opening n n []))))
        ≡ is_in (wanted.Number 1 64) o
    of_number None = refl
    of_number (Some k) = by k (nat_lt k 1 || nat_lt 64 k) refl

-- ---- by the first word

no : {A : Type 0} → false ≡ true → A
no e = absurd (cc e)

abbrev PresentIn : Program → List ℕ → Section → Type 0
PresentIn program rest s = takes (present_at s program rest) ≡ true → counted (present_at s program rest) ≡ is_in (wanted.Number 0 program.clients) (number (first_word rest))

counted_keyword : (s : Section) (program : Program) (w rest : List ℕ) → 0 < program.clients → Spelled w → takes (keyword_line (record { section = s; program = program }) (keyword_of w) rest) ≡ true
    → has_number w ≡ true → counted (keyword_line (record { section = s; program = program }) (keyword_of w) rest) ≡ is_in (range_of w program.clients) (number (first_word rest))
counted_keyword s program w rest some (is_clients e) taken has = no (rw e at taken)
counted_keyword s program w rest some (is_present e) taken has = rw e (by_section (PresentIn program rest) (λ t. counted_present program rest) (λ t. no t) (λ t. no t) s (rw e at taken))
counted_keyword s program w rest some (is_start e) taken has = no (rw e at has)
counted_keyword s program w rest some (is_edit e) taken has = rw e (counted_edit program rest some)
counted_keyword s program w rest some (is_take e) taken has = rw e (counted_one program rest instr.Take some)
counted_keyword s program w rest some (is_deliver e) taken has = rw e (counted_one program rest instr.Deliver some)
counted_keyword s program w rest some (is_ack e) taken has = rw e (counted_one program rest instr.Acknowledge some)
counted_keyword s program w rest some (is_read e) taken has = rw e (counted_one program rest instr.Read some)
counted_keyword s program w rest some (is_join e) taken has = rw e (counted_one program rest instr.Join some)
counted_keyword s program w rest some (is_server e) taken has = no (rw e at has)
counted_keyword s program w rest some (is_other o) taken has = no (rw (o.clients, o.present, o.start, o.edit, o.take, o.deliver, o.ack, o.read, o.join, o.server) at taken)

counted_first : (w rest : List ℕ) → Spelled w → takes (first_line (keyword_of w) rest) ≡ true → counted (first_line (keyword_of w) rest) ≡ is_in (range_of w 0) (number (first_word rest))
counted_first w rest (is_clients e) taken = rw e (counted_clients rest)
counted_first w rest (is_present e) taken = no (rw e at taken)
counted_first w rest (is_start e) taken = no (rw e at taken)
counted_first w rest (is_edit e) taken = no (rw e at taken)
counted_first w rest (is_take e) taken = no (rw e at taken)
counted_first w rest (is_deliver e) taken = no (rw e at taken)
counted_first w rest (is_ack e) taken = no (rw e at taken)
counted_first w rest (is_read e) taken = no (rw e at taken)
counted_first w rest (is_join e) taken = no (rw e at taken)
counted_first w rest (is_server e) taken = no (rw e at taken)
counted_first w rest (is_other o) taken = no (rw (o.clients, o.present, o.start, o.edit, o.take, o.deliver, o.ack, o.read, o.join, o.server) at taken)

counted_words : (draft : Option BodyView) (line : List ℕ) → Positive draft → takes (counted_line draft line) ≡ true → has_number (first_word line) ≡ true
    → counted (counted_line draft line) ≡ is_in (range_of (first_word line) (reached_of draft).clients) (number (first_word (after_word line)))
counted_words None line some taken has = counted_first (first_word line) (after_word line) (spelled (first_word line)) taken
counted_words (Some draft) line some taken has = counted_keyword draft.section draft.program (first_word line) (after_word line) some (spelled (first_word line)) taken has

counted_step : (draft : Option BodyView) (line : List ℕ) → Positive draft → is_utf8 line ≡ true → counts (trimmed line) ≡ true → takes_word (line_step draft line) ≡ true
    → has_number (first_word (trimmed line)) ≡ true
    → takes_number (line_step draft line) ≡ is_in (range_of (first_word (trimmed line)) (reached_of draft).clients) (number (first_word (after_word (trimmed line))))
unfolding line_step
counted_step draft line some text full taken has = rw (text, full) (counted_words draft (trimmed line) some (rw (text, full) at taken) has)

pub numbers_taken : NumbersAreTaken
numbers_taken lines at draft line makes text full taken has =
    counted_step draft line (all_positive (take (at - 1) lines) 1 None draft tt makes) text full taken has
    ∙ ap (λ (r : Reached). is_in (range_of (first_word (trimmed line)) r.clients) (number (first_word (after_word (trimmed line))))) (sym (stages_made lines at draft makes))
