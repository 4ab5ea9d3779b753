-- Which method of ot.js an instruction calls, and what that is given.
use Rattle.std.specs.Prelude.{ℕ, List, map, drop, slice_get, Option, Some, None}
use Rattle.ot_isa.specs.declared.instruction.Instr.{Instr}
use Rattle.ot_isa.specs.declared.instruction.Instr.TheVariants.{Edit, Take, Deliver, Acknowledge}
use Rattle.ot_model.specs.Operation.{Operation}
use Rattle.ot_model.specs.Table.{Phase, NotJoined, Synchronized, AwaitingConfirm, AwaitingWithBuffer, Entry, Message, State}
use Rattle.ot_steps.specs.Lines.{plain_operation}
use Rattle.ot_machine.specs.Effects.{client_in}
use Rattle.ot_rules.specs.declared.call.Pending.{Pending}
use Rattle.ot_rules.specs.declared.call.Pending.TheVariants.{Nothing, Outstanding, Buffered}
use Rattle.ot_rules.specs.Call.{Call, ApplyClient, ApplyServer, ServerAck, ReceiveOperation}

-- the client's pending operations, without tags; none where it has not joined
abbrev pub pending_in : Phase → Option Pending
pending_in NotJoined = None
pending_in Synchronized = Some Nothing
pending_in (AwaitingConfirm o) = Some (Outstanding (plain_operation o))
pending_in (AwaitingWithBuffer o b) = Some (Buffered (plain_operation o) (plain_operation b))

abbrev pub entry_operation : Entry → Operation ℕ
entry_operation h = plain_operation h.op

-- `applyClient` of the client's state
abbrev pub edits : Option Pending → Operation ℕ → Option Call
edits None op = None
edits (Some w) op = Some (ApplyClient w op)

-- `applyServer` of the client's state: the next entry of the log
abbrev pub delivers : Option Pending → Option Entry → Option Call
delivers None h = None
delivers (Some w) None = None
delivers (Some w) (Some h) = Some (ApplyServer w (entry_operation h))

-- `serverAck` of a state with an outstanding operation
abbrev pub acknowledges : ℕ → Option Pending → Option Call
acknowledges revision None = None
acknowledges revision (Some Nothing) = None
acknowledges revision (Some (Outstanding o)) = Some (ServerAck revision (Outstanding o))
acknowledges revision (Some (Buffered o b)) = Some (ServerAck revision (Buffered o b))

-- `receiveOperation` of the server: the message, and the log from its revision on
abbrev pub takes : List Entry → Option Message → Option Call
takes log None = None
takes log (Some m) = Some (ReceiveOperation m.revision (plain_operation m.op) (map entry_operation (drop m.revision log)))

-- the call that an instruction is in the state before it, where it is performed
abbrev pub call_of : State → Instr → Option Call
call_of s (Edit c op) = edits (pending_in (client_in s c).phase) op
call_of s (Take c) = takes s.log (client_in s c).message
call_of s (Deliver c) = delivers (pending_in (client_in s c).phase) (slice_get s.log (client_in s c).revision)
call_of s (Acknowledge c) = acknowledges (client_in s c).revision (pending_in (client_in s c).phase)
call_of s _ = None
