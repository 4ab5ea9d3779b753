-- The values of the three types of client, each a state.
use Rattle.std.specs.Prelude.{◌≡◌, ℕ, length}
use Rattle.ot_operation.specs.Operation.{Operation}
use Rattle.ot_client.specs.State.{State, Synchronized, AwaitingConfirm, AwaitingWithBuffer}

-- the values of the three types of client, each a state
pub record Confirming (A : Type 0) : Type 0 where
  pub revision : ℕ
  pub outstanding : Operation A

pub record Buffering (A : Type 0) : Type 0 where
  pub revision : ℕ
  pub outstanding : Operation A
  pub buffer : Operation A

-- the three values as states
abbrev pub synchronized : {A : Type 0} → ℕ → State A
synchronized revision = record { revision = revision; phase = Synchronized }

abbrev pub confirming : {A : Type 0} → Confirming A → State A
confirming client = record { revision = client.revision; phase = AwaitingConfirm client.outstanding }

abbrev pub buffering : {A : Type 0} → Buffering A → State A
buffering client = record { revision = client.revision; phase = AwaitingWithBuffer client.outstanding client.buffer }

-- the buffer is over what the outstanding operation makes
abbrev pub IsJoined : {A : Type 0} → Buffering A → Type 0
IsJoined client = client.buffer.base ≡ length client.outstanding.image
