-- What typical wrong rules make of a call, under a key of the line.
use Rattle.std.specs.Prelude.{ℕ, ◌+◌, List, [], ◌∷◌, length, ◌==◌, ◌&&◌, nat_le, if◌then◌else◌, Bool, Option, Some, None}
use Rattle.ot_operation.specs.Operation.{Operation, news}
use Rattle.ot_operation.specs.Merge.{transform}
use Rattle.ot_rules.specs.declared.call.Pending.{Pending}
use Rattle.ot_rules.specs.declared.call.Pending.TheVariants.{Nothing, Outstanding, Buffered}
use Rattle.ot_rules.specs.declared.note.Note.{Note}
use Rattle.ot_rules.specs.declared.note.Note.TheVariants as note
use Rattle.ot_steps.specs.declared.key.Key.{Key}
use Rattle.ot_steps.specs.declared.key.Key.TheVariants as key
use Rattle.ot_rules.specs.Call.{Call, ApplyClient, ApplyServer, ReceiveOperation}
use Rattle.ot_operation.specs.declared.TheConstants.{LIMIT}

abbrev pub Pair : Type 0
Pair = Operation ℕ × Operation ℕ

-- transform takes the two: they have one base, and room for what both insert
abbrev pub may_transform : Operation ℕ → Operation ℕ → Bool
may_transform a b = (a.base == b.base) && nat_le (a.base + (length (news a.image) + length (news b.image))) LIMIT

-- both results of transform, where it takes the two
abbrev pub transformed : Operation ℕ → Operation ℕ → Option Pair
transformed a b = if may_transform a b then Some (transform a b) else None

abbrev pub first_of : Option Pair → Option (Operation ℕ)
first_of None = None
first_of (Some pair) = Some pair.0

abbrev pub second_of : Option Pair → Option (Operation ℕ)
second_of None = None
second_of (Some pair) = Some pair.1

-- ---- the tie broken the other way: the arguments of each transform are exchanged, so the text that should come second goes first

-- what a delivery makes: the outstanding operation, the buffer if there is one, and the operation that is applied
abbrev pub delivered : Operation ℕ → Option (Operation ℕ) → Operation ℕ → Key → Option (Operation ℕ)
delivered outstanding buffer applied key.Outstanding = Some outstanding
delivered outstanding buffer applied key.Buffer = buffer
delivered outstanding buffer applied key.Applied = Some applied
delivered outstanding buffer applied _ = None

abbrev pub turned_past : Option Pair → Key → Option (Operation ℕ)
turned_past None f = None
turned_past (Some first) f = delivered first.1 None first.0 f

abbrev pub turned_past_both : Operation ℕ → Option Pair → Key → Option (Operation ℕ)
turned_past_both outstanding None f = None
turned_past_both outstanding (Some second) f = delivered outstanding (Some second.1) second.0 f

abbrev pub turned_past_buffer : Operation ℕ → Option Pair → Key → Option (Operation ℕ)
turned_past_buffer buffer None f = None
turned_past_buffer buffer (Some first) f = turned_past_both first.1 (transformed first.0 buffer) f

abbrev pub turned : Pending → Operation ℕ → Key → Option (Operation ℕ)
turned Nothing op f = None
turned (Outstanding o) op f = turned_past (transformed op o) f
turned (Buffered o b) op f = turned_past_buffer b (transformed op o) f

abbrev pub turned_over : Operation ℕ → List (Operation ℕ) → Option (Operation ℕ)
turned_over op [] = Some op
turned_over op (other ∷ others) = elim (second_of (transformed other op)) [ None ↦ None | Some next ↦ turned_over next others ]

abbrev pub made_turned : Call → Key → Option (Operation ℕ)
made_turned (ApplyServer w op) f = turned w op f
made_turned (ReceiveOperation revision op concurrent) key.Appended = turned_over op concurrent
made_turned _ f = None

-- ---- no transform: each operation as it was

abbrev pub untransformed : Call → Key → Option (Operation ℕ)
untransformed (ApplyServer (Outstanding o) op) key.Outstanding = Some o
untransformed (ApplyServer (Outstanding o) op) key.Applied = Some op
untransformed (ApplyServer (Buffered o b) op) key.Outstanding = Some o
untransformed (ApplyServer (Buffered o b) op) key.Buffer = Some b
untransformed (ApplyServer (Buffered o b) op) key.Applied = Some op
untransformed (ReceiveOperation revision op concurrent) key.Appended = Some op
untransformed _ f = None

-- ---- half of the transforms: the buffer over the delivered operation itself, and that over the outstanding operation alone

abbrev pub half_transformed : Call → Key → Option (Operation ℕ)
half_transformed (ApplyServer (Buffered o b) op) key.Buffer = first_of (transformed b op)
half_transformed (ApplyServer (Buffered o b) op) key.Applied = second_of (transformed o op)
half_transformed _ f = None

-- ---- no compose: the edit in the buffer's place, or the buffer without it

abbrev pub edit_alone : Call → Key → Option (Operation ℕ)
edit_alone (ApplyClient (Buffered o b) op) key.Buffer = Some op
edit_alone _ f = None

abbrev pub without_edit : Call → Key → Option (Operation ℕ)
without_edit (ApplyClient (Buffered o b) op) key.Buffer = Some b
without_edit _ f = None

-- ---- by the note that names the rule

abbrev pub made : Note → Call → Key → Option (Operation ℕ)
made note.Turned call f = made_turned call f
made note.Untransformed call f = untransformed call f
made note.HalfTransformed call f = half_transformed call f
made note.EditAlone call f = edit_alone call f
made note.WithoutEdit call f = without_edit call f
made _ call f = None

abbrev pub made_at : Note → Call → Option Key → Option (Operation ℕ)
made_at n call None = None
made_at n call (Some f) = made n call f
