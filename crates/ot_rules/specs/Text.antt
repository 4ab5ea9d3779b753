-- A call by its name, what it is given, and both as lines.
use Rattle.std.specs.Prelude.{ℕ, List, [], ◌∷◌, ◌++◌, codes, decimal, map, string_bytes}
use Rattle.ot_json.specs.Writing.{text_of_operation}
use Rattle.ot_operation.specs.Operation.{Operation}
use Rattle.ot_rules.specs.declared.call.Pending.{Pending}
use Rattle.ot_rules.specs.declared.call.Pending.TheVariants.{Nothing, Outstanding, Buffered}
use Rattle.ot_rules.specs.declared.printing.Given as program
use Rattle.ot_rules.specs.Call.{Call, ApplyClient, ApplyServer, ServerAck, ReceiveOperation}

-- the method's name, as ot.js has it
abbrev pub rule_text : Call → List ℕ
rule_text (ApplyClient Nothing op) = codes "Synchronized.applyClient"
rule_text (ApplyClient (Outstanding o) op) = codes "AwaitingConfirm.applyClient"
rule_text (ApplyClient (Buffered o b) op) = codes "AwaitingWithBuffer.applyClient"
rule_text (ApplyServer Nothing op) = codes "Synchronized.applyServer"
rule_text (ApplyServer (Outstanding o) op) = codes "AwaitingConfirm.applyServer"
rule_text (ApplyServer (Buffered o b) op) = codes "AwaitingWithBuffer.applyServer"
rule_text (ServerAck revision Nothing) = codes "Synchronized.serverAck"
rule_text (ServerAck revision (Outstanding o)) = codes "AwaitingConfirm.serverAck"
rule_text (ServerAck revision (Buffered o b)) = codes "AwaitingWithBuffer.serverAck"
rule_text (ReceiveOperation revision op concurrent) = codes "Server.receiveOperation"

-- ---- what a method is given

-- a value by its name: an operation as ot.js' `toJSON` has it, or a revision
pub record Given : Type 0 where
  pub name : List ℕ
  pub value : List ℕ

abbrev pub given_value : program.Given → Given
given_value g = record { name = g.name.now; value = string_bytes g.value }

abbrev pub given_values : List program.Given → List Given
given_values gs = map given_value gs

abbrev pub given_operation : List ℕ → Operation ℕ → Given
given_operation name op = record { name = name; value = text_of_operation op }

abbrev pub given_revision : ℕ → Given
given_revision revision = record { name = codes "revision"; value = decimal revision }

abbrev pub given_pending : Pending → List Given
given_pending Nothing = []
given_pending (Outstanding o) = given_operation (codes "outstanding") o ∷ []
given_pending (Buffered o b) = given_operation (codes "outstanding") o ∷ given_operation (codes "buffer") b ∷ []

abbrev pub given_concurrent : List (Operation ℕ) → List Given
given_concurrent [] = []
given_concurrent (op ∷ ops) = given_operation (codes "concurrent") op ∷ given_concurrent ops

abbrev pub given_operand : Pending → Operation ℕ → List Given
given_operand w op = given_pending w ++ given_operation (codes "operation") op ∷ []

abbrev pub given_of : Call → List Given
given_of (ApplyClient w op) = given_operand w op
given_of (ApplyServer w op) = given_operand w op
given_of (ServerAck revision w) = given_revision revision ∷ given_pending w
given_of (ReceiveOperation revision op concurrent) = given_revision revision ∷ given_operation (codes "operation") op ∷ given_concurrent concurrent

-- given NAME V
abbrev pub given_row : Given → List ℕ
given_row g = codes "given " ++ (g.name ++ 32 ∷ (g.value ++ 10 ∷ []))

abbrev pub given_rows : List Given → List ℕ
given_rows [] = []
given_rows (g ∷ gs) = given_row g ++ given_rows gs
