-- Lines and values as the program holds them.
use Rattle.std.specs.Prelude.{ℕ, length, Bool, true, false, Option, option_map}
use Rattle.std.specs.Borrow.{Bor}
use Rattle.std.specs.Option.{option_copied}
use Rattle.ot_client.specs.Client.{message_of}
use Rattle.ot_client.specs.declared.sent.Sent.{Sent}
use Rattle.ot_isa.specs.declared.elements.Tagged.{Tagged}
use Rattle.ot_isa.specs.declared.instruction.Instr.{Instr}
use Rattle.ot_isa.specs.declared.instruction.Instr.TheVariants.{Read, ReadServer}
use Rattle.ot_isa.specs.Program.{IsForClients}
use Rattle.ot_isa.specs.Tagging.{chars_of}
use Rattle.ot_model.specs.Operation.{Operation}
use Rattle.ot_steps.specs.Lines.{Line, Message, plain_message, plain_operation}
use Rattle.ot_steps.specs.Steps.{end_line, line_after, opening_line, stop_line, whole_line}
use Rattle.ot_steps.specs.Text as text
use Rattle.ot_steps.specs.Text.{Value}
use Rattle.ot_steps.specs.declared.line.Line as held
use Rattle.ot_steps.specs.declared.line.Line.TheVariants as line
use Rattle.ot_steps.specs.declared.line.Step as held_step
use Rattle.ot_steps.specs.declared.value.Value as held_value
use Rattle.ot_steps.specs.declared.value.Value.TheVariants as value

-- a value
abbrev pub value_of : held_value.Value → Value
value_of (value.Number n) = text.Number n
value_of (value.Name name) = text.Name name.now
value_of (value.Letters letters) = text.Text letters.now
value_of (value.Document list) = text.Text (chars_of list.now)
value_of (value.Edit op) = text.Op op.now
value_of (value.Operation op) = text.Op (plain_operation op.now)
value_of (value.Message m) = text.Sent (plain_message (message_of m.now))

-- operations and messages, where there are such
abbrev pub operations : Option (Bor (Operation Tagged)) → Option (Operation ℕ)
operations op = option_map plain_operation (option_copied op)

abbrev pub messages : Option (Bor (Sent Tagged)) → Option Message
messages message = option_map (λ m. plain_message (message_of m)) (option_copied message)

-- all values that the run has for a line
abbrev pub step_whole : held_step.Step → Line
step_whole step = whole_line step.at step.instr.now step.sent (operations step.delivered) step.machine.now

abbrev pub whole_of : held.Line → Line
whole_of (line.Opening schedule) = opening_line schedule.now
whole_of (line.Step step) = step_whole step
whole_of (line.Stop stop) = stop_line stop.at stop.instr.now stop.refusal
whole_of (line.End at quiet) = end_line at quiet

-- those that are printed, with an instruction's document or without
abbrev pub step_printed : Bool → held_step.Step → Line
step_printed documents step = line_after documents step.at step.instr.now step.sent (operations step.delivered) step.machine.now

abbrev pub printed_of : Bool → held.Line → Line
printed_of documents (line.Opening schedule) = opening_line schedule.now
printed_of documents (line.Step step) = step_printed documents step
printed_of documents (line.Stop stop) = stop_line stop.at stop.instr.now stop.refusal
printed_of documents (line.End at quiet) = end_line at quiet

-- an instruction that was performed is of a client that is there
abbrev pub IsHeld : held.Line → Type 0
IsHeld (line.Step step) = IsForClients (length step.machine.now.clients) step.instr.now
IsHeld _ = Unit {0}

-- ---- for private clauses

-- a read moves nobody
abbrev pub is_read : Instr → Bool
is_read (Read c) = true
is_read ReadServer = true
is_read _ = false
