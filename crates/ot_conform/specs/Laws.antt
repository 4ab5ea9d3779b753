-- What comes of the lines of `steps` themselves.
use Rattle.std.specs.Prelude.{◌≡◌, ◌≢◌, ◌||◌, ℕ, List, [], ◌∷◌, map, Bool, false, true, Option, Some, None, codes, is_some, option_map, if◌then◌else◌}
use Rattle.std.specs.Str.{encode_utf8_all}
use Rattle.serde_json.specs.Data.{Data, null, boolean, number, unsigned, string, array, object, Members, no_members, member, put}
use Rattle.serde_json.specs.Find.{get}
use Rattle.streams.specs.Lines.{lines_of}
use Rattle.ot_operation.specs.Run.{normal_runs}
use Rattle.ot_json.specs.Writing.{array_of}
use Rattle.ot_isa.specs.Program.{IsProgram, Program}
use Rattle.ot_model.specs.Operation.{Operation}
use Rattle.ot_model.specs.Runs.{opening_of}
use Rattle.ot_model.specs.declared.shown.Refusal.{Refusal}
use Rattle.ot_model.specs.declared.shown.Refusal.TheVariants.{Memory}
use Rattle.ot_steps.specs.Lines.{Line, Message}
use Rattle.ot_steps.specs.Text.{Value, Number, Name, Text, Op, Sent, lines_text}
use Rattle.ot_steps.specs.Written.{AreRunLines}
use Rattle.ot_conform.specs.Counted.{counted, is_nothing, no_counts}
use Rattle.ot_conform.specs.Differences.{Ahead, Wanted, Limit, Outcome, Conforms, Stopped, ahead_from, is_limit, outcome}
use Rattle.ot_conform.specs.Keys.{found_at}
use Rattle.ot_conform.specs.Ports.{PortLine, Told, OtherForm, NoText, Nothing, counted_lines, is_opening_line}
use Rattle.ot_conform.specs.Received.{Received, Taken, Delivered}
use Rattle.ot_steps.specs.Text.{value_at}
use Rattle.ot_steps.specs.declared.key.Key.{Key}

-- the values of lines as JSON
abbrev pub operation_data : Operation ℕ → Data
operation_data op = array_of (normal_runs op)

abbrev pub message_data : Message → Data
message_data m = object (member (codes "operation") (operation_data m.operation) (member (codes "revision") (number (unsigned m.revision)) no_members))

abbrev pub data_of : Value → Data
data_of (Number n) = number (unsigned n)
data_of (Name name) = string name
data_of (Text text) = string (encode_utf8_all text)
data_of (Op op) = operation_data op
data_of (Sent m) = message_data m

-- an object says under each key what the line has there, and nothing where it has nothing; lines of `steps` have no message
pub record Says (line : Line) (d : Data) : Type 0 where
  pub under : (k : Key) → found_at k d ≡ option_map data_of (value_at k line)
  pub message : get (codes "message") d ≡ None

-- a port's lines say these, one by one
abbrev pub SaysLine : Line → PortLine → Type 0
SaysLine line (Told d) = Says line d
SaysLine line (OtherForm bytes) = ⊥
SaysLine line NoText = ⊥
SaysLine line Nothing = ⊥

abbrev pub Say : List Line → List PortLine → Type 0
Say [] [] = Unit {0}
Say [] (port ∷ ports) = ⊥
Say (line ∷ lines) [] = ⊥
Say (line ∷ lines) (port ∷ ports) = SaysLine line port × Say lines ports

-- what an instruction receives as JSON
abbrev pub received_data : Received → Data
received_data (Taken m) = message_data m
received_data (Delivered op) = operation_data op

-- an object with the message too; other lines are what they are
abbrev pub with_message : Option Received → PortLine → PortLine
with_message None line = line
with_message (Some received) (Told null) = Told null
with_message (Some received) (Told (boolean b)) = Told (boolean b)
with_message (Some received) (Told (number n)) = Told (number n)
with_message (Some received) (Told (string s)) = Told (string s)
with_message (Some received) (Told (array ds)) = Told (array ds)
with_message (Some received) (Told (object ms)) = Told (object (put (codes "message") (received_data received) ms))
with_message (Some received) (OtherForm bytes) = OtherForm bytes
with_message (Some received) NoText = NoText
with_message (Some received) Nothing = Nothing

-- each line with what the instruction received of which it is
abbrev pub with_messages : List Ahead → List PortLine → List PortLine
with_messages [] lines = lines
with_messages (Wanted due ∷ ahead) [] = []
with_messages (Wanted due ∷ ahead) (line ∷ lines) = with_message due.received line ∷ with_messages ahead lines
with_messages (Limit at refusal ∷ ahead) lines = lines

-- behind the opening's line, if there is one
abbrev pub messages_told : Program → List PortLine → List PortLine
messages_told s [] = []
messages_told s (line ∷ lines) =
    if is_opening_line line then line ∷ with_messages (ahead_from 0 (opening_of s) s.instrs) lines else with_messages (ahead_from 0 (opening_of s) s.instrs) (line ∷ lines)

-- a port that conforms does so too where it prints what each instruction received
abbrev pub MessagesConform : Type 0
MessagesConform = (s : Program) (lines : List PortLine) → outcome false s lines ≡ Conforms → outcome false s (messages_told s lines) ≡ Conforms

-- what comes of a run that ends so
abbrev pub outcome_at : Option (ℕ × Refusal) → Outcome
outcome_at None = Conforms
outcome_at (Some stop) = if is_limit stop.1 then Stopped stop.0 stop.1 else Conforms

-- memory did not run out
abbrev pub IsOfTable : Option (ℕ × Refusal) → Type 0
IsOfTable None = Unit {0}
IsOfTable (Some stop) = stop.1 ≢ Memory

-- a port that prints the lines of `steps` conforms, with and without documents; where the bench alone has the limit the comparison stops
abbrev pub StepsConform : Type 0
StepsConform =
    (documents : Bool) (s : Program) (stopped : Option (ℕ × Refusal)) (lines : List Line) (ports : List PortLine)
    → AreRunLines documents s stopped lines → IsOfTable stopped → Say lines ports → outcome false s ports ≡ outcome_at stopped

-- the bytes that `steps` prints of a schedule's run, read as a port's lines, conform; where the bench alone has the limit the comparison stops
abbrev pub PrintedStepsConform : Type 0
PrintedStepsConform =
    (documents : Bool) (s : Program) (stopped : Option (ℕ × Refusal)) (lines : List Line)
    → IsProgram s → AreRunLines documents s stopped lines → IsOfTable stopped
    → outcome false s (counted_lines (lines_of (lines_text lines))) ≡ outcome_at stopped

-- some of these lines, in their order
abbrev pub chosen : List Bool → List Line → List Line
chosen [] lines = []
chosen (b ∷ which) [] = []
chosen (true ∷ which) (line ∷ lines) = line ∷ chosen which lines
chosen (false ∷ which) (line ∷ lines) = chosen which lines

-- one of them is of where the run ends: of the instruction that is refused, or the end's
abbrev pub is_last : Line → Bool
is_last line = is_some line.stopped || is_some line.quiet

abbrev pub has_last : List Line → Bool
has_last [] = false
has_last (line ∷ lines) = is_last line || has_last lines

-- what comes of some lines of a run that ends so: that the bench alone has a limit counts only for lines from there on
abbrev pub outcome_of_chosen : Option (ℕ × Refusal) → List Line → Outcome
outcome_of_chosen stopped lines = if has_last lines then outcome_at stopped else Conforms

-- a port that prints some of the lines of `steps`, whichever, conforms where lines for some instructions alone are allowed
abbrev pub ChosenStepsConform : Type 0
ChosenStepsConform =
    (documents : Bool) (s : Program) (stopped : Option (ℕ × Refusal)) (lines : List Line) (which : List Bool) (ports : List PortLine)
    → AreRunLines documents s stopped lines → IsOfTable stopped → Say (chosen which lines) ports
    → outcome true s ports ≡ outcome_of_chosen stopped (chosen which lines)

-- so do the bytes of some of the lines that `steps` prints
abbrev pub PrintedChosenStepsConform : Type 0
PrintedChosenStepsConform =
    (documents : Bool) (s : Program) (stopped : Option (ℕ × Refusal)) (lines : List Line) (which : List Bool)
    → IsProgram s → AreRunLines documents s stopped lines → IsOfTable stopped
    → outcome true s (counted_lines (lines_of (lines_text (chosen which lines)))) ≡ outcome_of_chosen stopped (chosen which lines)

-- the lines of `steps` have values, so that for them the answer is never that nothing is counted
abbrev pub StepsAreCounted : Type 0
StepsAreCounted =
    (documents : Bool) (s : Program) (stopped : Option (ℕ × Refusal)) (lines : List Line) (ports : List PortLine)
    → AreRunLines documents s stopped lines → Say lines ports → is_nothing (counted no_counts ports) ≡ false

-- an object with a place, and a client and a message where they are given
abbrev pub message_member : Option Data → Members
message_member None = no_members
message_member (Some message) = member (codes "message") message no_members

abbrev pub client_member : Option ℕ → Members → Members
client_member None ms = ms
client_member (Some c) ms = member (codes "client") (number (unsigned c)) ms

abbrev pub place_with : ℕ → Option ℕ → Option Data → PortLine
place_with n client message = Told (object (member (codes "at") (number (unsigned n)) (client_member client (message_member message))))

-- a place alone
abbrev pub place_alone : ℕ → PortLine
place_alone n = place_with n None None

-- of lines with places, clients and messages alone nothing is counted
abbrev pub PlacesAreNotCounted : Type 0
PlacesAreNotCounted = (lines : List (ℕ × Option ℕ × Option Data)) → is_nothing (counted no_counts (map (λ (l : ℕ × Option ℕ × Option Data). place_with l.0 l.1 l.2) lines)) ≡ true
