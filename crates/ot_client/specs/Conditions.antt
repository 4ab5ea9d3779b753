-- What the calls of a client ask.
use Rattle.std.specs.Prelude.{◌≡◌, ◌+◌, ◌≤◌, length}
use Rattle.ot_operation.specs.Operation.{Operation, news}
use Rattle.ot_operation.specs.declared.TheConstants.{LIMIT}
use Rattle.ot_client.specs.State.{Phase, Synchronized, AwaitingConfirm, AwaitingWithBuffer}

-- what an edit asks: that it is over the client's document
abbrev pub MayEdit : {A : Type 0} → Phase A → Operation A → Type 0
MayEdit Synchronized op = Unit {0}
MayEdit (AwaitingConfirm outstanding) op = op.base ≡ length outstanding.image
MayEdit (AwaitingWithBuffer outstanding buffer) op = op.base ≡ length buffer.image

-- what a delivery asks: one base, and room for all that is inserted
abbrev pub MayDeliver : {A : Type 0} → Phase A → Operation A → Type 0
MayDeliver Synchronized op = Unit {0}
MayDeliver (AwaitingConfirm outstanding) op =
    (op.base ≡ outstanding.base) × (op.base + length (news outstanding.image) + length (news op.image) ≤ LIMIT)
MayDeliver (AwaitingWithBuffer outstanding buffer) op =
    (op.base ≡ outstanding.base)
    × (op.base + length (news outstanding.image) + length (news buffer.image) + length (news op.image) ≤ LIMIT)

-- what an acknowledgement asks: that something was sent
abbrev pub IsAwaiting : {A : Type 0} → Phase A → Type 0
IsAwaiting Synchronized = ⊥
IsAwaiting (AwaitingConfirm outstanding) = Unit {0}
IsAwaiting (AwaitingWithBuffer outstanding buffer) = Unit {0}
