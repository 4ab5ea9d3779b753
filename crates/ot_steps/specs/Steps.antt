-- The lines of a schedule's run.
use Rattle.std.specs.Prelude.{◌≡◌, ℕ, suc, List, [], ◌∷◌, ◌++◌, ◌-◌, ◌||◌, ◌&&◌, length, drop, take, slice_get, is_none, if◌then◌else◌, Bool, true, false, Option, Some, None}
use Rattle.std.specs.Option.{option_map}
use Rattle.ot_isa.specs.Program.{Program, client_of}
use Rattle.ot_isa.specs.Tagging.{chars_of}
use Rattle.ot_isa.specs.declared.instruction.Instr.{Instr}
use Rattle.ot_isa.specs.declared.instruction.Instr.TheVariants.{Edit, Take, Deliver, Acknowledge, Join, Read, ReadServer}
use Rattle.ot_model.specs.declared.shown.Refusal.{Refusal}
use Rattle.ot_model.specs.declared.shown.Shown.{Shown}
use Rattle.ot_model.specs.Operation.{Operation}
use Rattle.ot_model.specs.Table.{Phase, AwaitingConfirm, AwaitingWithBuffer, Client, State, Entry, Performed, Refused, NoRow, is_joined, step}
use Rattle.ot_model.specs.Runs.{opening_of}
use Rattle.ot_machine.specs.Effects as machine
use Rattle.ot_machine.specs.Effects.{client_in, is_synchronized, sends}
use Rattle.ot_machine.specs.Readers.{phase_name}
use Rattle.ot_machine.specs.declared.state.Phase as shown
use Rattle.ot_machine.specs.Ended.{reached}
use Rattle.ot_steps.specs.Lines.{Line, Message, bare, plain_message, plain_operation, word_of}

-- the instruction is performed
abbrev pub LeadsTo : Instr → State → State → Type 0
LeadsTo i s t = (shown : Option Shown) × (step s i ≡ Performed t shown)

-- ---- what stands in the states

abbrev pub outstanding_of : Phase → Option (Operation ℕ)
outstanding_of (AwaitingConfirm o) = Some (plain_operation o)
outstanding_of (AwaitingWithBuffer o b) = Some (plain_operation o)
outstanding_of _ = None

abbrev pub buffer_of : Phase → Option (Operation ℕ)
buffer_of (AwaitingWithBuffer o b) = Some (plain_operation b)
buffer_of _ = None

-- the operation that an instruction applies to the client's document by a delivery
abbrev pub applies : Instr → State → Option (Operation ℕ)
applies i s = option_map plain_operation (machine.applied_by s i)

-- the last operation of a log
abbrev pub last_of : List Entry → Option (Operation ℕ)
last_of log = option_map (λ (h : Entry). plain_operation h.op) (slice_get log (length log - 1))

-- ---- the line of one instruction

abbrev pub edit_of : Instr → Option (Operation ℕ)
edit_of (Edit c op) = Some op
edit_of _ = None

-- which instruction it is
abbrev pub named : ℕ → Instr → Line
named at i = record (bare at) { word = Some (word_of i); client = client_of i; edit = edit_of i }

-- and where the client is then
abbrev pub with_client : Client → Line → Line
with_client y line =
    record line { revision = Some y.revision; state = Some (phase_name y.phase); outstanding = outstanding_of y.phase; buffer = buffer_of y.phase }

-- and where the one that moved is then, in the state t; reads move nobody
abbrev pub placed : Instr → State → Line → Line
placed (Edit c op) t line = with_client (client_in t c) line
placed (Take c) t line = record line { revision = Some (length t.log) }
placed (Deliver c) t line = with_client (client_in t c) line
placed (Acknowledge c) t line = with_client (client_in t c) line
placed (Join c) t line = with_client (client_in t c) line
placed (Read c) t line = line
placed ReadServer t line = line

-- the operation that an instruction appended to the log
abbrev pub appended_by : Instr → State → Option (Operation ℕ)
appended_by (Take c) t = last_of t.log
appended_by _ t = None

-- the message on the link to the server of the client that an instruction names
abbrev pub message_in : State → Option ℕ → Option Message
message_in t None = None
message_in t (Some c) = option_map plain_message (client_in t c).message

-- the document of the one that moved or was read
abbrev pub document_in : State → Instr → List ℕ
document_in t (Edit c op) = chars_of (client_in t c).list
document_in t (Take c) = chars_of t.server
document_in t (Deliver c) = chars_of (client_in t c).list
document_in t (Acknowledge c) = chars_of (client_in t c).list
document_in t (Join c) = chars_of (client_in t c).list
document_in t (Read c) = chars_of (client_in t c).list
document_in t ReadServer = chars_of t.server

-- a read and a join have a document always
abbrev pub has_document : Instr → Bool
has_document (Join c) = true
has_document (Read c) = true
has_document ReadServer = true
has_document _ = false

-- the document that a line has
abbrev pub document_after : Bool → Instr → State → Option (List ℕ)
document_after documents i t = if has_document i || documents then Some (document_in t i) else None

-- the line of an instruction that leads to the state t, `at` being the place after it: it has sent a message or not, and applied an operation
abbrev pub line_after : Bool → ℕ → Instr → Bool → Option (Operation ℕ) → State → Line
line_after documents at i sent applied t =
    record (placed i t (named at i)) {
      sent = if sent then message_in t (client_of i) else None;
      applied = applied;
      appended = appended_by i t;
      document = document_after documents i t;
    }

-- the line of an instruction that leads from the state s to the state t
abbrev pub step_line : Bool → ℕ → Instr → State → State → Line
step_line documents at i s t = line_after documents at i (sends i s) (applies i s) t

-- ---- all values that the run has for an instruction's line: `line_after` has those that are printed

-- the client whose state it has; none where it has the server's
abbrev pub placed_client : Instr → Option ℕ
placed_client (Edit c op) = Some c
placed_client (Take c) = None
placed_client (Deliver c) = Some c
placed_client (Acknowledge c) = Some c
placed_client (Join c) = Some c
placed_client (Read c) = Some c
placed_client ReadServer = None

-- where that one is in the state t
abbrev pub revision_at : State → Option ℕ → ℕ
revision_at t None = length t.log
revision_at t (Some c) = (client_in t c).revision

abbrev pub state_at : State → Option ℕ → Option shown.Phase
state_at t None = None
state_at t (Some c) = Some (phase_name (client_in t c).phase)

abbrev pub outstanding_at : State → Option ℕ → Option (Operation ℕ)
outstanding_at t None = None
outstanding_at t (Some c) = outstanding_of (client_in t c).phase

abbrev pub buffer_at : State → Option ℕ → Option (Operation ℕ)
buffer_at t None = None
buffer_at t (Some c) = buffer_of (client_in t c).phase

-- what is applied to the client's document: by an edit the edit
abbrev pub applied_by : Instr → Option (Operation ℕ) → Option (Operation ℕ)
applied_by (Edit c op) delivered = Some op
applied_by _ delivered = delivered

abbrev pub message_if : Bool → State → Instr → Option Message
message_if sent t i = if sent then message_in t (client_of i) else None

-- the values of an instruction that leads to the state t: it has sent a message or not, and applied a delivered operation
abbrev pub whole_line : ℕ → Instr → Bool → Option (Operation ℕ) → State → Line
whole_line at i sent delivered t =
    record {
      at = at;
      clients = None;
      present = None;
      start = None;
      word = Some (word_of i);
      client = client_of i;
      edit = edit_of i;
      stopped = None;
      revision = Some (revision_at t (placed_client i));
      state = state_at t (placed_client i);
      outstanding = outstanding_at t (placed_client i);
      buffer = buffer_at t (placed_client i);
      sent = message_if sent t i;
      applied = applied_by i delivered;
      appended = appended_by i t;
      document = Some (document_in t i);
      quiet = None;
    }

-- ---- the other lines

abbrev pub opening_line : Program → Line
opening_line s = record (bare 0) { clients = Some s.clients; present = Some s.present; start = Some s.start }

-- the line of an instruction that is refused, `at` being the place where the run stands
abbrev pub stop_line : ℕ → Instr → Refusal → Line
stop_line at i refusal = record (named at i) { stopped = Some refusal }

abbrev pub end_line : ℕ → Bool → Line
end_line at quiet = record (bare at) { quiet = Some quiet }

-- ---- whether all is quiet, as a test

abbrev pub is_end : List Entry → Bool
is_end [] = true
is_end (h ∷ log) = false

abbrev pub is_client_quiet : List Entry → Client → Bool
is_client_quiet log x =
    if is_joined x.phase then is_synchronized x.phase && (is_none x.message && is_end (drop x.revision log)) else true

abbrev pub are_quiet : List Entry → List Client → Bool
are_quiet log [] = true
are_quiet log (x ∷ clients) = is_client_quiet log x && are_quiet log clients

abbrev pub is_quiet : State → Bool
is_quiet s = are_quiet s.log s.clients

-- ---- all lines

-- the lines of the instructions up to the first refusal, from the state s on, which stands at a place
abbrev pub lines_from : Bool → ℕ → State → List Instr → List Line
lines_from documents at s [] = []
lines_from documents at s (i ∷ is) =
    elim (step s i) [
      | Performed t shown ↦ step_line documents (suc at) i s t ∷ lines_from documents (suc at) t is
      | Refused r ↦ []
      | NoRow ↦ []
    ]

-- the opening, and the lines of the first p instructions
abbrev pub first_lines : Bool → Program → ℕ → List Line
first_lines documents s p = opening_line s ∷ lines_from documents 0 (opening_of s) (take p s.instrs)

-- the line of the instruction at which a run stopped, if it did
abbrev pub stop_at : ℕ → Refusal → Option Instr → List Line
stop_at place refusal None = []
stop_at place refusal (Some i) = stop_line place i refusal ∷ []

abbrev pub stop_lines : Program → Option (ℕ × Refusal) → List Line
stop_lines s None = []
stop_lines s (Some stop) = stop_at stop.0 stop.1 (slice_get s.instrs stop.0)

-- the stop and the end of a run that ends in this state
abbrev pub last_lines : Program → State → Option (ℕ × Refusal) → List Line
last_lines s state stopped = stop_lines s stopped ++ end_line (reached s stopped) (is_quiet state) ∷ []

-- all lines of a run that ends in this state
abbrev pub run_lines : Bool → Program → State → Option (ℕ × Refusal) → List Line
run_lines documents s state stopped = first_lines documents s (reached s stopped) ++ last_lines s state stopped
