-- The first difference between the lines of a port and those that are due.
use Rattle.std.specs.Prelude.{ℕ, suc, List, [], ◌∷◌, Bool, true, false, not, Option, Some, None, codes, is_some, if◌then◌else◌}
use Rattle.serde_json.specs.Data.{Data}
use Rattle.serde_json.specs.Find.{get}
use Rattle.ot_isa.specs.Program.{Program}
use Rattle.ot_isa.specs.declared.instruction.Instr.{Instr}
use Rattle.ot_model.specs.declared.shown.Refusal.{Refusal}
use Rattle.ot_model.specs.declared.shown.Refusal.TheVariants.{NoSuchClient, StepsFull, NotJoined, AlreadyJoined, BadBase, ClientFull, LinkEmpty, WrongHead, Memory}
use Rattle.ot_model.specs.Table.{State, Performed, Refused, NoRow, step}
use Rattle.ot_model.specs.Runs.{opening_of}
use Rattle.ot_steps.specs.Lines.{Line}
use Rattle.ot_machine.specs.Effects.{sends}
use Rattle.ot_steps.specs.Steps.{applies, is_quiet}
use Rattle.ot_conform.specs.Due.{DueLine, What, Opening, Instruction, End, end_due, opening_due, step_due, stop_due}
use Rattle.ot_conform.specs.Keys.{agrees, first_keys, found_at, is_told, other_keys}
use Rattle.ot_conform.specs.Passed.{passes}
use Rattle.ot_conform.specs.Ports.{PortLine, Told, Nothing, is_opening_line}
use Rattle.ot_conform.specs.Received.{Received, message_agrees, receives}
use Rattle.ot_steps.specs.Text.{value_at}
use Rattle.ot_steps.specs.declared.key.Key.{Key}
use Rattle.ot_conform.specs.declared.meeting.Field.{Field}
use Rattle.ot_conform.specs.declared.meeting.Field.TheVariants as field

-- ---- one line

-- of these keys the first whose printed value does not agree
unfoldable pub first_key : List Key → Line → Data → Option Key
first_key [] line d = None
first_key (k ∷ ks) line d = if agrees (value_at k line) (found_at k d) then first_key ks line d else Some k

abbrev pub field_of_key : Option Key → Option Field
field_of_key None = None
field_of_key (Some k) = Some (field.Key k)

abbrev pub is_same : Bool → Bool → Bool
is_same true b = b
is_same false b = not b

abbrev pub field_of_message : Bool → Option Field
field_of_message true = None
field_of_message false = Some field.Message

-- the first of two
abbrev pub or_next : Option Field → Option Field → Option Field
or_next None next = next
or_next (Some f) next = Some f

-- the keys that say which line it is, then the message, and then the other keys
abbrev pub keyed_field : DueLine → Data → Option Field
keyed_field due d =
    or_next (field_of_key (first_key first_keys due.line d))
    (or_next (field_of_message (message_agrees due.received (get (codes "message") d))) (field_of_key (first_key other_keys due.line d)))

-- a message counts where something is received
abbrev pub message_of_stop : Option Received → Bool → Option Field
message_of_stop None agrees = None
message_of_stop (Some received) agrees = field_of_message agrees

-- one of the two stops, and the other does not: the message that the port stopped over, and then the stop
abbrev pub stopped_field : DueLine → Data → Option Field
stopped_field due d = or_next (message_of_stop due.received (message_agrees due.received (get (codes "message") d))) (Some field.Stopped)

-- whether both stop or none does, and then the keys in their order
abbrev pub told_field : DueLine → Data → Option Field
told_field due d =
    if is_same (is_some due.line.stopped) (is_told (get (codes "stopped") d)) then keyed_field due d else stopped_field due d

-- where a port's line differs from the one that is due, if it does
abbrev pub field_of : DueLine → PortLine → Option Field
field_of due (Told d) = told_field due d
field_of due line = Some field.Line

-- ---- all lines

-- a line that is due; or a place from which on nothing is compared, since the bench alone has the limit
pub data Ahead : Type 0 where
  Wanted : DueLine → Ahead
  Limit : ℕ → Refusal → Ahead

pub data Outcome : Type 0 where
  Conforms : Outcome
  Differs : DueLine → Field → PortLine → Outcome
  LeftOver : ℕ → PortLine → Outcome
  Stopped : ℕ → Refusal → Outcome

-- where lines for some instructions alone are allowed, what has no line is passed over
abbrev pub unless_sparse : Bool → Outcome → Outcome
unless_sparse true o = Conforms
unless_sparse false o = o

-- no line is left; the end's may be missing
abbrev pub missing : Bool → What → DueLine → Outcome
missing sparse Opening due = unless_sparse sparse (Differs due field.Line Nothing)
missing sparse (Instruction i) due = unless_sparse sparse (Differs due field.Line Nothing)
missing sparse End due = Conforms

abbrev pub unless_differs : DueLine → PortLine → Option Field → Outcome → Outcome
unless_differs due line None rest = rest
unless_differs due line (Some f) rest = Differs due f line

-- the lines against what is ahead, line by line; the last line that was due has the place `last`. Where lines for some instructions alone are
-- allowed, each line is compared with the first one that it does not pass over
abbrev pub over : Bool → ℕ → List Ahead → List PortLine → Outcome
over sparse last [] [] = Conforms
over sparse last [] (line ∷ lines) = LeftOver last line
over sparse last (Wanted due ∷ ahead) [] = missing sparse due.what due
over sparse last (Wanted due ∷ ahead) (line ∷ lines) =
    if passes sparse due line then over sparse due.line.at ahead (line ∷ lines)
    else unless_differs due line (field_of due line) (over sparse due.line.at ahead lines)
over sparse last (Limit at refusal ∷ ahead) [] = unless_sparse sparse (Stopped at refusal)
over sparse last (Limit at refusal ∷ ahead) (line ∷ lines) = Stopped at refusal

-- the opening's line may be missing
abbrev pub from_opening : Bool → DueLine → List Ahead → List PortLine → Outcome
from_opening sparse opening ahead [] = over sparse 0 ahead []
from_opening sparse opening ahead (line ∷ lines) = if is_opening_line line then over sparse 0 (Wanted opening ∷ ahead) (line ∷ lines) else over sparse 0 ahead (line ∷ lines)

-- ---- what a run has ahead

-- a refusal that ot.js does not know
abbrev pub is_limit : Refusal → Bool
is_limit NoSuchClient = false
is_limit StepsFull = true
is_limit NotJoined = false
is_limit AlreadyJoined = false
is_limit BadBase = false
is_limit ClientFull = true
is_limit LinkEmpty = false
is_limit WrongHead = false
is_limit Memory = true

abbrev pub ending : ℕ → State → List Ahead
ending at s = Wanted (end_due at (is_quiet s)) ∷ []

abbrev pub stopping : ℕ → State → Instr → Refusal → List Ahead
stopping at s i refusal = if is_limit refusal then Limit at refusal ∷ [] else Wanted (stop_due at i refusal) ∷ ending at s

-- from the state s on, which stands at a place
abbrev pub ahead_from : ℕ → State → List Instr → List Ahead
ahead_from at s [] = ending at s
ahead_from at s (i ∷ is) =
    elim (step s i) [
      | Performed t shown ↦ Wanted (step_due (suc at) i (sends i s) (applies i s) (receives i s) t) ∷ ahead_from (suc at) t is
      | Refused r ↦ stopping at s i r
      | NoRow ↦ []
    ]

-- what comes of comparing a port's lines with the run of a schedule, where each instruction has a line, or some alone
abbrev pub outcome : Bool → Program → List PortLine → Outcome
outcome sparse s lines = from_opening sparse (opening_due s) (ahead_from 0 (opening_of s) s.instrs) lines
