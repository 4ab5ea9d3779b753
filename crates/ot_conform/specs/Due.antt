-- What the run of a schedule has for the lines that are due.
use Rattle.std.specs.Prelude.{ℕ, Bool, false, Option, None}
use Rattle.ot_isa.specs.Program.{Program}
use Rattle.ot_isa.specs.declared.instruction.Instr.{Instr}
use Rattle.ot_model.specs.declared.shown.Refusal.{Refusal}
use Rattle.ot_model.specs.Operation.{Operation}
use Rattle.ot_model.specs.Table.{State}
use Rattle.ot_steps.specs.Held.{printed_of, whole_of}
use Rattle.ot_steps.specs.Lines.{Line}
use Rattle.ot_steps.specs.Steps.{end_line, line_after, opening_line, stop_line, whole_line}
use Rattle.ot_steps.specs.declared.line.Line as held
use Rattle.ot_steps.specs.declared.line.Line.TheVariants as line
use Rattle.ot_conform.specs.Received.{Received, received_in}
use Rattle.ot_conform.specs.declared.received.Received as held_received
use Rattle.ot_conform.specs.declared.due.Due.{Due}

-- whose line it is
pub data What : Type 0 where
  Opening : What
  Instruction : Instr → What
  End : What

-- a line that is due: what the instruction receives, all values that it has, and the line as `steps` prints it
pub record DueLine : Type 0 where
  pub what : What
  pub received : Option Received
  pub line : Line
  pub shown : Line

abbrev pub opening_due : Program → DueLine
opening_due s = record { what = Opening; received = None; line = opening_line s; shown = opening_line s }

abbrev pub step_due : ℕ → Instr → Bool → Option (Operation ℕ) → Option Received → State → DueLine
step_due at i sent delivered received t =
    record { what = Instruction i; received = received; line = whole_line at i sent delivered t; shown = line_after false at i sent delivered t }

abbrev pub stop_due : ℕ → Instr → Refusal → DueLine
stop_due at i refusal = record { what = Instruction i; received = None; line = stop_line at i refusal; shown = stop_line at i refusal }

abbrev pub end_due : ℕ → Bool → DueLine
end_due at quiet = record { what = End; received = None; line = end_line at quiet; shown = end_line at quiet }

-- ---- as the program has them at hand

abbrev pub what_of : held.Line → What
what_of (line.Opening schedule) = Opening
what_of (line.Step step) = Instruction step.instr.now
what_of (line.Stop stop) = Instruction stop.instr.now
what_of (line.End at quiet) = End

abbrev pub received_by : held.Line → held_received.Received → Option Received
received_by (line.Opening schedule) given = None
received_by (line.Step step) given = received_in step.machine.now given
received_by (line.Stop stop) given = None
received_by (line.End at quiet) given = None

abbrev pub due_with : held.Line → held_received.Received → DueLine
due_with has given = record { what = what_of has; received = received_by has given; line = whole_of has; shown = printed_of false has }

abbrev pub due_of : Due → DueLine
due_of due = due_with due.line due.received.now
