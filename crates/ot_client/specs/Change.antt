-- What a step changes of a client. It is exchanged: the client gets what the change holds, and the change what undoes it.
use Rattle.std.specs.Prelude.{◌≡◌, length}
use Rattle.std.specs.Box.{with_value}
use Rattle.ot_operation.specs.Operation.{news}
use Rattle.ot_codes.specs.Shape.{filled, shape}
use Rattle.ot_client.specs.State.{State, Phase, Synchronized, AwaitingConfirm, AwaitingWithBuffer}
use Rattle.ot_client.specs.declared.change.Change.{Change}
use Rattle.ot_client.specs.declared.change.Pending.{Pending}
use Rattle.ot_client.specs.declared.change.Pending.TheVariants as pending

-- the pending operations after the exchange; new codes leave an operation's text as it is
abbrev pub phase_changed : {A : Type 0} → Phase A → Pending A → Phase A
phase_changed Synchronized (pending.Send op) = AwaitingConfirm op
phase_changed (AwaitingConfirm o) pending.Unsend = Synchronized
phase_changed (AwaitingConfirm o) (pending.Buffer b) = AwaitingWithBuffer o b
phase_changed (AwaitingWithBuffer o b) pending.Unbuffer = AwaitingConfirm o
phase_changed (AwaitingWithBuffer o b) (pending.Rebuffer other) = AwaitingWithBuffer o other
phase_changed (AwaitingConfirm o) (pending.Outstanding codes) = AwaitingConfirm (filled codes (news o.image))
phase_changed (AwaitingWithBuffer o b) (pending.Both codes) =
    AwaitingWithBuffer (filled codes.value.0 (news o.image)) (filled codes.value.1 (news b.image))
phase_changed (AwaitingWithBuffer o b) pending.Confirm = AwaitingConfirm b
phase_changed (AwaitingConfirm b) (pending.Unconfirm o) = AwaitingWithBuffer o b
phase_changed phase other = phase

-- what the change holds after the exchange
abbrev pub pending_undoing : {A : Type 0} → Phase A → Pending A → Pending A
pending_undoing Synchronized (pending.Send op) = pending.Unsend
pending_undoing (AwaitingConfirm o) pending.Unsend = pending.Send o
pending_undoing (AwaitingConfirm o) (pending.Buffer b) = pending.Unbuffer
pending_undoing (AwaitingWithBuffer o b) pending.Unbuffer = pending.Buffer b
pending_undoing (AwaitingWithBuffer o b) (pending.Rebuffer other) = pending.Rebuffer b
pending_undoing (AwaitingConfirm o) (pending.Outstanding codes) = pending.Outstanding (shape o)
pending_undoing (AwaitingWithBuffer o b) (pending.Both codes) = pending.Both (with_value codes (shape o, shape b))
pending_undoing (AwaitingWithBuffer o b) pending.Confirm = pending.Unconfirm o
pending_undoing (AwaitingConfirm b) (pending.Unconfirm o) = pending.Confirm
pending_undoing phase other = other

-- the change is one of such pending operations, and codes insert as many elements as the operation that gets them
abbrev pub IsOver : {A : Type 0} → Phase A → Pending A → Type 0
IsOver phase pending.Nothing = Unit {0}
IsOver Synchronized (pending.Send op) = Unit {0}
IsOver (AwaitingConfirm o) pending.Unsend = Unit {0}
IsOver (AwaitingConfirm o) (pending.Buffer b) = Unit {0}
IsOver (AwaitingWithBuffer o b) pending.Unbuffer = Unit {0}
IsOver (AwaitingWithBuffer o b) (pending.Rebuffer other) = Unit {0}
IsOver (AwaitingConfirm o) (pending.Outstanding codes) = length (news codes.image) ≡ length (news o.image)
IsOver (AwaitingWithBuffer o b) (pending.Both codes) =
    (length (news codes.value.0.image) ≡ length (news o.image)) × (length (news codes.value.1.image) ≡ length (news b.image))
IsOver (AwaitingWithBuffer o b) pending.Confirm = Unit {0}
IsOver (AwaitingConfirm b) (pending.Unconfirm o) = Unit {0}
IsOver phase other = ⊥

-- the client stays in its state, and what changes is exchanged where it lies
abbrev pub IsInPlace : {A : Type 0} → Phase A → Pending A → Type 0
IsInPlace Synchronized pending.Nothing = Unit {0}
IsInPlace (AwaitingConfirm o) (pending.Outstanding codes) = Unit {0}
IsInPlace (AwaitingWithBuffer o b) (pending.Both codes) = Unit {0}
IsInPlace (AwaitingWithBuffer o b) (pending.Rebuffer other) = Unit {0}
IsInPlace phase other = ⊥

-- a buffer is over what the outstanding operation makes
abbrev pub IsPhaseJoined : {A : Type 0} → Phase A → Type 0
IsPhaseJoined (AwaitingWithBuffer o b) = b.base ≡ length o.image
IsPhaseJoined phase = Unit {0}

-- the client after the exchange
abbrev pub changed : {A : Type 0} → State A → Change A → State A
changed state change = record { revision = change.revision; phase = phase_changed state.phase change.pending }

-- the change after the exchange, which undoes it
abbrev pub undoing : {A : Type 0} → State A → Change A → Change A
undoing state change = record { revision = state.revision; pending = pending_undoing state.phase change.pending }

-- the change may be exchanged there
pub record Fits {A : Type 0} (state : State A) (change : Change A) : Type 0 where
  pub over : IsOver state.phase change.pending
  pub before : IsPhaseJoined state.phase
  pub after : IsPhaseJoined (phase_changed state.phase change.pending)
