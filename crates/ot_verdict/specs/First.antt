-- Whose edits the server has still to take, and whose `complete` has it take first.
use Rattle.std.specs.Prelude.{◌≡◌, ℕ, suc, List, [], ◌∷◌, ◌==◌, slice_get, Bool, Option, Some, None, is_some, if◌then◌else◌}
use Rattle.std.specs.List.{list_any}
use Rattle.ot_isa.specs.declared.instruction.Instr.{Instr}
use Rattle.ot_isa.specs.declared.instruction.Instr.TheVariants.{Edit, Take, Deliver, Acknowledge, Join, Read, ReadServer}
use Rattle.ot_model.specs.Table.{Client, State}
use Rattle.ot_model.specs.Orders.{is_take_by}
use Rattle.ot_model.specs.Session.{RunsTo}
use Rattle.ot_model.specs.Sound.{IsSound}
use Rattle.ot_generate.specs.Completed.{Drains, next_of}
use Rattle.ot_verdict.specs.Pending.{has_buffer, has_untaken}
use Rattle.ot_verdict.specs.Laws.{AreNoEdits, HasArrived}

-- the number of the first of these clients that passes the test; the first of them has number c
abbrev pub first_that : (Client → Bool) → ℕ → List Client → Option ℕ
first_that test c [] = None
first_that test c (x ∷ clients) = if test x then Some c else first_that test (suc c) clients

abbrev pub or_number : Option ℕ → Option ℕ → Option ℕ
or_number None second = second
or_number (Some c) second = Some c

abbrev pub has_message : Client → Bool
has_message x = is_some x.message

abbrev pub buffers : Client → Bool
buffers x = has_buffer x.phase

-- the first client whose message is on its way to the server; where there is none, the first with a buffer
abbrev pub first_taken : State → Option ℕ
first_taken s = or_number (first_that has_message 0 s.clients) (first_that buffers 0 s.clients)

-- whose message the first take of the instructions takes
abbrev pub first_take : List Instr → Option ℕ
first_take [] = None
first_take (Edit c op ∷ is) = first_take is
first_take (Take c ∷ is) = Some c
first_take (Deliver c ∷ is) = first_take is
first_take (Acknowledge c ∷ is) = first_take is
first_take (Join c ∷ is) = first_take is
first_take (Read c ∷ is) = first_take is
first_take (ReadServer ∷ is) = first_take is

-- of the instructions that `complete` appends, the first take is of that client's message
abbrev pub CompletionTakes : Type 0
CompletionTakes = (s t : State) (is : List Instr) → IsSound s → Drains s is t → next_of t ≡ None → first_take is ≡ first_taken s

-- one of the instructions takes a message of client c
abbrev pub takes_of : ℕ → List Instr → Bool
takes_of c is = list_any (is_take_by (λ d. d == c)) is

-- whatever comes but an edit, in whatever order: until everything has arrived, the server takes a message of exactly those clients that have edits that it has not taken
abbrev pub NamedAreTaken : Type 0
NamedAreTaken =
    (s t : State) (is : List Instr) (c : ℕ) (x : Client) → IsSound s → AreNoEdits is → RunsTo s is t → HasArrived t → slice_get s.clients c ≡ Some x
    → takes_of c is ≡ has_untaken x
