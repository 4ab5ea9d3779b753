-- Calls of the methods of ot.js, with what each is given.
use Rattle.std.specs.Prelude.{ℕ, List}
use Rattle.ot_operation.specs.Operation.{Operation}
use Rattle.ot_rules.specs.declared.call.Pending.{Pending}
use Rattle.ot_rules.specs.declared.call.Call as program
use Rattle.ot_rules.specs.declared.call.Call.TheVariants as made

-- a call, with what it is given: the client's state with its pending operations, an edit or another's operation, a revision, and the
-- operations that the log has gained since that
pub data Call : Type 0 where
  ApplyClient : Pending → Operation ℕ → Call
  ApplyServer : Pending → Operation ℕ → Call
  ServerAck : ℕ → Pending → Call
  ReceiveOperation : ℕ → Operation ℕ → List (Operation ℕ) → Call

-- ---- the program's calls

abbrev pub call_value : program.Call → Call
call_value (made.ApplyClient w op) = ApplyClient w op
call_value (made.ApplyServer w op) = ApplyServer w op
call_value (made.ServerAck revision w) = ServerAck revision w
call_value (made.ReceiveOperation revision op concurrent) = ReceiveOperation revision op concurrent.items
