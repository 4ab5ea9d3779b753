-- The trace of a schedule: one event for each performed edit and read.
use Rattle.std.specs.Prelude.{ℕ, zero, suc, ◌-◌, List, [], ◌∷◌, ◌++◌, length, map, take, set, get_or, filter, replicate, not, if◌then◌else◌, ◌==◌, true, false}
use Rattle.ot_isa.specs.Program.{Program}
use Rattle.ot_isa.specs.declared.elements.Tag.{Tag}
use Rattle.ot_isa.specs.declared.elements.Tagged.{Tagged}
use Rattle.ot_isa.specs.declared.instruction.Instr.{Instr}
use Rattle.ot_isa.specs.declared.instruction.Instr.TheVariants.{Edit, Take, Deliver, Acknowledge, Join, Read, ReadServer}
use Rattle.ot_model.specs.declared.trace.Placed.{Placed}
use Rattle.ot_model.specs.Operation.{Item, Old, New, apply}
use Rattle.ot_model.specs.Table.{Phase, NotJoined, Synchronized, AwaitingConfirm, AwaitingWithBuffer, Client, absent, State, Performed, Refused, NoRow, step, tag_operation, opening, start_list}
use Rattle.ot_model.specs.Trace.{EventView, TraceView, contains}

-- of a log entry: its maker, and how many of the maker's edits lie in it and in the entries before it
pub record Count : Type 0 where
  pub maker : ℕ
  pub edits : ℕ

-- beside the state: a count for each log entry, and for each client how many edits it made and how many of them lie in its buffer
pub record Ledger : Type 0 where
  pub entries : List Count
  pub made : List ℕ
  pub buffered : List ℕ

-- how many edits of replica d lie in these entries, n if none is d's
abbrev pub counted : ℕ → ℕ → List Count → ℕ
counted d n [] = n
counted d n (m ∷ entries) = if m.maker == d then counted d m.edits entries else counted d n entries

abbrev pub tags : List Tagged → List Tag
tags list = map (λ x. x.tag) list

-- what the reader sees of each replica's edits, of n replicas from d on: its own, and what lies in these log entries
abbrev pub seen_from : ℕ → ℕ → ℕ → ℕ → List Count → List ℕ
seen_from reader own d zero entries = []
seen_from reader own d (suc n) entries = (if d == reader then own else counted d 0 entries) ∷ seen_from reader own (suc d) n entries

-- the new elements of an image, with their places, the first place being `place`
abbrev pub insertions_from : ℕ → List (Item Tagged) → List Placed
insertions_from place [] = []
insertions_from place (Old i ∷ items) = insertions_from (suc place) items
insertions_from place (New x ∷ items) = record { tag = x.tag; place = place } ∷ insertions_from (suc place) items

-- how many edits lie in the buffer after one more, n before it
abbrev pub in_buffer : Phase → ℕ → ℕ
in_buffer NotJoined n = 0
in_buffer Synchronized n = 0
in_buffer (AwaitingConfirm o) n = 1
in_buffer (AwaitingWithBuffer o b) n = suc n

-- the ledger after an instruction of client x
abbrev pub ledger_after : Ledger → Instr → Client → Ledger
ledger_after l (Edit c op) x =
    record { entries = l.entries; made = set l.made c (suc (get_or l.made c 0)); buffered = set l.buffered c (in_buffer x.phase (get_or l.buffered c 0)) }
ledger_after l (Take c) x =
    record { entries = l.entries ++ record { maker = c; edits = get_or l.made c 0 - get_or l.buffered c 0 } ∷ []; made = l.made; buffered = l.buffered }
ledger_after l (Deliver c) x = l
ledger_after l (Acknowledge c) x = record { entries = l.entries; made = l.made; buffered = set l.buffered c 0 }
ledger_after l (Join c) x = l
ledger_after l (Read c) x = l
ledger_after l ReadServer x = l

-- the event of an instruction of client x, of n clients and the server, which is replica n
abbrev pub event_of : Ledger → Instr → ℕ → Client → State → List EventView
event_of l (Edit c op) n x s =
    let done = tag_operation c x.count op in
    record {
      replica = c;
      edit = true;
      seen = seen_from c (get_or l.made c 0) 0 (suc n) (take x.revision l.entries);
      inserted = insertions_from 0 done.image;
      deleted = filter (λ t. not (contains (tags (apply done x.list)) t)) (tags x.list);
      list = tags (apply done x.list);
    } ∷ []
event_of l (Take c) n x s = []
event_of l (Deliver c) n x s = []
event_of l (Acknowledge c) n x s = []
event_of l (Join c) n x s = []
event_of l (Read c) n x s =
    record { replica = c; edit = false; seen = seen_from c (get_or l.made c 0) 0 (suc n) (take x.revision l.entries); inserted = []; deleted = []; list = tags x.list } ∷ []
event_of l ReadServer n x s =
    record { replica = n; edit = false; seen = seen_from n 0 0 (suc n) l.entries; inserted = []; deleted = []; list = tags s.server } ∷ []

-- the client of an instruction
abbrev pub actor : Instr → List Client → Client → Client
actor (Edit c op) clients d = get_or clients c d
actor (Take c) clients d = get_or clients c d
actor (Deliver c) clients d = get_or clients c d
actor (Acknowledge c) clients d = get_or clients c d
actor (Join c) clients d = get_or clients c d
actor (Read c) clients d = get_or clients c d
actor ReadServer clients d = d

-- the events up to the first refusal
abbrev pub events_from : State → Ledger → List Instr → List EventView
events_from s l [] = []
events_from s l (i ∷ is) =
    elim (step s i) [
      | Performed t shown ↦
          event_of l i (length s.clients) (actor i s.clients absent) s
          ++ events_from t (ledger_after l i (actor i s.clients absent)) is
      | Refused r ↦ []
      | NoRow ↦ []
    ]

-- before the first instruction nobody has made an edit
abbrev pub no_edits : ℕ → Ledger
no_edits clients = record { entries = []; made = replicate clients 0; buffered = replicate clients 0 }

abbrev pub events : ℕ → ℕ → List ℕ → List Instr → List EventView
events clients present text is = events_from (opening clients present text) (no_edits clients) is

-- the trace of a schedule: its clients and, last, the server as replicas
abbrev pub trace_of : Program → TraceView
trace_of s = record { replicas = suc s.clients; start = tags (start_list s.start); events = events s.clients s.present s.start s.instrs }
