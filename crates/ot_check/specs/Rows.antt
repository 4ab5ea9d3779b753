-- The trace of a schedule by rows of counts: how many edits of each replica lie in the first entries of the log.
use Rattle.std.specs.Prelude.{ℕ, ◌+◌, ◌-◌, List, [], ◌∷◌, ◌++◌, length, set, get_or, filter, replicate, not, true, false}
use Rattle.ot_isa.specs.declared.elements.Tag.{Tag}
use Rattle.ot_isa.specs.declared.elements.Tagged.{Tagged}
use Rattle.ot_isa.specs.declared.instruction.Instr.{Instr}
use Rattle.ot_isa.specs.declared.instruction.Instr.TheVariants.{Edit, Take, Deliver, Acknowledge, Join, Read, ReadServer}
use Rattle.ot_model.specs.Operation.{apply, Operation}
use Rattle.ot_model.specs.Table.{Client, absent, State, Performed, Refused, NoRow, step, tag_operation}
use Rattle.ot_model.specs.Trace.{EventView, contains}
use Rattle.ot_model.specs.Events.{tags, insertions_from, in_buffer, actor}

-- by client, how many edits it made and how many of them lie in its buffer;
-- and for each number of log entries from 0 on, by replica, how many of its edits lie in that many first entries
pub record Counts : Type 0 where
  pub made : List ℕ
  pub buffered : List ℕ
  pub rows : List (List ℕ)

-- before the first instruction
abbrev pub no_counts : ℕ → Counts
no_counts clients = record { made = replicate clients 0; buffered = replicate clients 0; rows = replicate (clients + 1) 0 ∷ [] }

-- the row of so many log entries
abbrev pub row_at : Counts → ℕ → List ℕ
row_at l k = get_or l.rows k []

abbrev pub last_row : Counts → List ℕ
last_row l = row_at l (length l.rows - 1)

-- how many edits a client made, and how many of them wait in its buffer
abbrev pub made_by : Counts → ℕ → ℕ
made_by l c = get_or l.made c 0

abbrev pub waiting_of : Counts → ℕ → ℕ
waiting_of l c = get_or l.buffered c 0

-- the counts after an instruction of client x
abbrev pub counts_after : Counts → Instr → Client → Counts
counts_after l (Edit c op) x =
    record { made = set l.made c (made_by l c + 1); buffered = set l.buffered c (in_buffer x.phase (waiting_of l c)); rows = l.rows }
counts_after l (Take c) x =
    record { made = l.made; buffered = l.buffered; rows = l.rows ++ set (last_row l) c (made_by l c - waiting_of l c) ∷ [] }
counts_after l (Deliver c) x = l
counts_after l (Acknowledge c) x = record { made = l.made; buffered = set l.buffered c 0; rows = l.rows }
counts_after l (Join c) x = l
counts_after l (Read c) x = l
counts_after l ReadServer x = l

-- what client x, which has number c, sees: the row of the entries that it has, but all its own edits
abbrev pub seen_by : Counts → ℕ → Client → List ℕ
seen_by l c x = set (row_at l x.revision) c (made_by l c)

-- the event of an edit of the client with number c that sees so much: the operation, and the lists before it and after it
abbrev pub edit_made : ℕ → Operation Tagged → List Tag → List Tag → List ℕ → EventView
edit_made c done before after seen =
    record {
      replica = c;
      edit = true;
      seen = seen;
      inserted = insertions_from 0 done.image;
      deleted = filter (λ t. not (contains after t)) before;
      list = after;
    }

-- the event of an edit that is tagged so
abbrev pub edit_event : ℕ → Operation Tagged → Client → List ℕ → EventView
edit_event c done x seen = edit_made c done (tags x.list) (tags (apply done x.list)) seen

-- the event of a read of this list
abbrev pub read_event : ℕ → List Tag → List ℕ → EventView
read_event replica list seen = record { replica = replica; edit = false; seen = seen; inserted = []; deleted = []; list = list }

-- the event of an instruction of client x, of n clients and the server, which is replica n
abbrev pub event_by : Counts → Instr → ℕ → Client → State → List EventView
event_by l (Edit c op) n x s = edit_event c (tag_operation c x.count op) x (seen_by l c x) ∷ []
event_by l (Take c) n x s = []
event_by l (Deliver c) n x s = []
event_by l (Acknowledge c) n x s = []
event_by l (Join c) n x s = []
event_by l (Read c) n x s = read_event c (tags x.list) (seen_by l c x) ∷ []
event_by l ReadServer n x s = read_event n (tags s.server) (set (last_row l) n 0) ∷ []

-- the client that an instruction names, as it is
abbrev pub acting : State → Instr → Client
acting s i = actor i s.clients absent

-- the event of an instruction, if it has one
abbrev pub event_at : State → Counts → Instr → List EventView
event_at s l i = event_by l i (length s.clients) (acting s i) s

-- the events up to the first refusal
abbrev pub events_by : State → Counts → List Instr → List EventView
events_by s l [] = []
events_by s l (i ∷ is) =
    elim (step s i) [
      | Performed t shown ↦ event_at s l i ++ events_by t (counts_after l i (acting s i)) is
      | Refused r ↦ []
      | NoRow ↦ []
    ]
