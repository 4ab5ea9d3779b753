-- What the lines give, without the algebra: each state of a session.
use Rattle.std.specs.Prelude.{ℕ, List, [], ◌∷◌, ◌++◌, ◌-◌, map, set, drop, replicate, get_or, unwrap_or, ◌==◌, if◌then◌else◌, Bool, true, false, Option, Some, None}
use Rattle.std.specs.Option.{option_map}
use Rattle.ot_isa.specs.Tagging.{chars_of}
use Rattle.ot_model.specs.declared.shown.Refusal.{Refusal}
use Rattle.ot_model.specs.Operation.{Operation, apply}
use Rattle.ot_model.specs.Table as table
use Rattle.ot_machine.specs.declared.state.Phase.{Phase}
use Rattle.ot_machine.specs.declared.state.Phase.TheVariants.{NotJoined, Synchronized}
use Rattle.ot_machine.specs.Readers.{phase_name}
use Rattle.ot_steps.specs.Lines.{Line, Message, Word, Edit, Take, Deliver, Ack, Join, Read, ReadServer, plain_message, plain_operation}
use Rattle.ot_steps.specs.Steps.{buffer_of, outstanding_of}

-- a client as lines give it: revision, state, pending operations, its text, and its message on the link to the server
pub record ClientText : Type 0 where
  pub revision : ℕ
  pub state : Phase
  pub outstanding : Option (Operation ℕ)
  pub buffer : Option (Operation ℕ)
  pub document : List ℕ
  pub message : Option Message

pub record EntryText : Type 0 where
  pub maker : ℕ
  pub operation : Operation ℕ

-- a session as lines give it: its clients, the server's text and the log
pub record Session : Type 0 where
  pub clients : List ClientText
  pub document : List ℕ
  pub log : List EntryText

-- ---- the fold

abbrev pub absent : ClientText
absent = record { revision = 0; state = NotJoined; outstanding = None; buffer = None; document = []; message = None }

abbrev pub present_with : List ℕ → ClientText
present_with text = record { revision = 0; state = Synchronized; outstanding = None; buffer = None; document = text; message = None }

-- the opening: the first clients are joined, as many as are present
abbrev pub opened : ℕ → ℕ → List ℕ → Session
opened clients present text =
    record { clients = replicate present (present_with text) ++ replicate (clients - present) absent; document = text; log = [] }

abbrev pub opened_by : Line → Session
opened_by line = opened (unwrap_or line.clients 0) (unwrap_or line.present 0) (unwrap_or line.start [])

-- the text after an operation, where the line has one
abbrev pub applied : Option (Operation ℕ) → List ℕ → List ℕ
applied None text = text
applied (Some op) text = apply op text

-- what is on the link to the server, where the line has a message it
abbrev pub under_way : Option Message → Option Message → Option Message
under_way None message = message
under_way (Some m) message = Some m

-- the client's revision, state and pending operations are the line's
abbrev pub told : Line → ClientText → List ℕ → ClientText
told line x document =
    record {
      revision = unwrap_or line.revision x.revision;
      state = unwrap_or line.state x.state;
      outstanding = line.outstanding;
      buffer = line.buffer;
      document = document;
      message = under_way line.sent x.message;
    }

abbrev pub with_client : Session → ℕ → ClientText → Session
with_client v c x = record v { clients = set v.clients c x }

-- the server takes the client's message
abbrev pub taken : Session → ℕ → ClientText → Operation ℕ → Session
taken v c x op =
    record {
      clients = set v.clients c (record x { message = None });
      document = apply op v.document;
      log = v.log ++ record { maker = c; operation = op } ∷ [];
    }

abbrev pub taken_by : Session → ℕ → ClientText → Option (Operation ℕ) → Session
taken_by v c x None = v
taken_by v c x (Some op) = taken v c x op

-- what an instruction of client c, which is x, changes
abbrev pub changed : Session → Line → Word → ℕ → ClientText → Session
changed v line Edit c x = with_client v c (told line x (applied line.edit x.document))
changed v line Take c x = taken_by v c x line.appended
changed v line Deliver c x = with_client v c (told line x (applied line.applied x.document))
changed v line Ack c x = with_client v c (told line x x.document)
changed v line Join c x = with_client v c (told line x (unwrap_or line.document x.document))
changed v line Read c x = v
changed v line ReadServer c x = v

-- a line that no client moved with changes nothing
abbrev pub changed_at : Session → Line → Option Word → Option ℕ → Session
changed_at v line None client = v
changed_at v line (Some word) None = v
changed_at v line (Some word) (Some c) = changed v line word c (get_or v.clients c absent)

-- nor does a stop
abbrev pub unless_stopped : Session → Session → Option Refusal → Session
unless_stopped v after None = after
unless_stopped v after (Some r) = v

abbrev pub folded : Session → Line → Session
folded v line = unless_stopped v (changed_at v line line.word line.client) line.stopped

abbrev pub folded_all : Session → List Line → Session
folded_all v [] = v
folded_all v (line ∷ lines) = folded_all (folded v line) lines

-- the session after these lines, of which the first is the opening
abbrev pub session_of : List Line → Session
session_of [] = opened 0 0 []
session_of (line ∷ lines) = folded_all (opened_by line) lines

-- a message to client c: its own operation is in the log, or another's operation
pub data HeadText : Type 0 where
  Own : HeadText
  Another : Operation ℕ → HeadText

abbrev pub head_for : ℕ → EntryText → HeadText
head_for c entry = if entry.maker == c then Own else Another entry.operation

-- what stands on the way to a client needs no line: the log from its revision on
abbrev pub is_joined : Phase → Bool
is_joined NotJoined = false
is_joined _ = true

abbrev pub downlink : Session → ℕ → ClientText → List HeadText
downlink v c x = if is_joined x.state then map (head_for c) (drop x.revision v.log) else []

-- ---- the same of a state of the table

abbrev pub client_text : table.Client → ClientText
client_text x =
    record {
      revision = x.revision;
      state = phase_name x.phase;
      outstanding = outstanding_of x.phase;
      buffer = buffer_of x.phase;
      document = chars_of x.list;
      message = option_map plain_message x.message;
    }

abbrev pub entry_text : table.Entry → EntryText
entry_text h = record { maker = h.maker; operation = plain_operation h.op }

abbrev pub session_in : table.State → Session
session_in s = record { clients = map client_text s.clients; document = chars_of s.server; log = map entry_text s.log }

abbrev pub head_text : table.Head → HeadText
head_text table.Ack = Own
head_text (table.Op op) = Another (plain_operation op)
