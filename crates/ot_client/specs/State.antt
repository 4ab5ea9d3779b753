-- A client: its pending operations, and what edits, deliveries and acknowledgements do to it.
use Rattle.std.specs.Prelude.{ℕ, suc, Option, Some, None}
use Rattle.ot_operation.specs.Operation.{Operation}
use Rattle.ot_operation.specs.Compose.{compose}
use Rattle.ot_operation.specs.Merge.{first_after, second_after}

-- nothing under way; an operation sent and not yet confirmed; that and a buffer of later edits
pub data Phase (A : Type 0) : Type 0 where
  Synchronized : Phase A
  AwaitingConfirm : Operation A → Phase A
  AwaitingWithBuffer : Operation A → Operation A → Phase A

-- a client: how many entries of the server's log it has, and its pending operations
pub record State (A : Type 0) : Type 0 where
  pub revision : ℕ
  pub phase : Phase A

-- an operation for the server, over the document at a revision
pub record Message (A : Type 0) : Type 0 where
  pub revision : ℕ
  pub op : Operation A

-- the user's own edit: it goes to the server, or waits in the buffer
abbrev pub phase_edited : {A : Type 0} → Phase A → Operation A → Phase A
phase_edited Synchronized op = AwaitingConfirm op
phase_edited (AwaitingConfirm outstanding) op = AwaitingWithBuffer outstanding op
phase_edited (AwaitingWithBuffer outstanding buffer) op = AwaitingWithBuffer outstanding (compose buffer op)

-- the client after the user's edit
abbrev pub edited : {A : Type 0} → State A → Operation A → State A
edited state op = record { revision = state.revision; phase = phase_edited state.phase op }

-- another's operation from the server: the pending operations are transformed against it
abbrev pub phase_delivered : {A : Type 0} → Phase A → Operation A → Phase A
phase_delivered Synchronized op = Synchronized
phase_delivered (AwaitingConfirm outstanding) op = AwaitingConfirm (first_after outstanding op)
phase_delivered (AwaitingWithBuffer outstanding buffer) op =
    AwaitingWithBuffer (first_after outstanding op) (first_after buffer (second_after outstanding op))

-- the client after another's operation, the next entry of the log
abbrev pub delivered : {A : Type 0} → State A → Operation A → State A
delivered state op = record { revision = suc state.revision; phase = phase_delivered state.phase op }

-- what the client applies: the operation transformed against all that is pending
abbrev pub against_pending : {A : Type 0} → Phase A → Operation A → Operation A
against_pending Synchronized op = op
against_pending (AwaitingConfirm outstanding) op = second_after outstanding op
against_pending (AwaitingWithBuffer outstanding buffer) op = second_after buffer (second_after outstanding op)

-- an acknowledgement: what was outstanding is in the server's log, and the buffer is sent; nothing is where nothing was sent
abbrev pub phase_acknowledged : {A : Type 0} → Phase A → Option (Phase A)
phase_acknowledged Synchronized = None
phase_acknowledged (AwaitingConfirm outstanding) = Some Synchronized
phase_acknowledged (AwaitingWithBuffer outstanding buffer) = Some (AwaitingConfirm buffer)

-- what an edit sends, and what an acknowledgement sends that leaves the client at a revision
abbrev pub message_edited : {A : Type 0} → ℕ → Phase A → Operation A → Option (Message A)
message_edited revision Synchronized op = Some (record { revision = revision; op = op })
message_edited revision (AwaitingConfirm outstanding) op = None
message_edited revision (AwaitingWithBuffer outstanding buffer) op = None

abbrev pub message_acknowledged : {A : Type 0} → ℕ → Phase A → Option (Message A)
message_acknowledged revision Synchronized = None
message_acknowledged revision (AwaitingConfirm outstanding) = None
message_acknowledged revision (AwaitingWithBuffer outstanding buffer) = Some (record { revision = revision; op = buffer })
