-- The laws of all traces, and of the lists that a run shows.
use Rattle.std.specs.Prelude.{◌≡◌, ℕ, ◌<◌, ◌≤◌, ◌⊎◌, List, length, take, slice_get, Some, IsTrue, true}
use Rattle.ot_isa.specs.Program.{Program}
use Rattle.ot_isa.specs.declared.elements.Tag.{Tag}
use Rattle.ot_model.specs.declared.shown.Reader.{Reader}
use Rattle.ot_model.specs.declared.shown.Reader.TheVariants as reader
use Rattle.ot_model.specs.Table.{Client, State, Place, is_joined, start_list}
use Rattle.ot_model.specs.Runs.{IsRunnable, place_at}
use Rattle.ot_model.specs.Sound.{apply_entries}
use Rattle.ot_model.specs.Trace.{TraceView, IsTrace, contains, event_at}
use Rattle.ot_model.specs.WeakList.{IsBefore, WeakListProperty}
use Rattle.ot_model.specs.Events.{tags, trace_of}

-- for every schedule, late joiners included, its trace is one: no tag is inserted twice, and each event fits
abbrev pub TraceShape : Type 0
TraceShape = (s : Program) → IsRunnable s → IsTrace (trace_of s)

-- for every schedule, late joiners included, its trace has the weak list property
abbrev pub WeakList : Type 0
WeakList = (s : Program) → IsRunnable s → WeakListProperty (trace_of s)

-- one order over all elements of a trace: along each list, ranks rise
pub record HasOneOrder (t : TraceView) : Type 0 where
  pub rank : Tag → ℕ
  pub rising : (e : ℕ) (a b : Tag) → IsBefore (event_at t.events e).list a b → rank a < rank b

-- every schedule's trace had one: what does not hold
abbrev pub OneOrder : Type 0
OneOrder = (s : Program) → IsRunnable s → HasOneOrder (trace_of s)

-- the server's list after the first k entries of a state's log
abbrev pub server_after : Program → State → ℕ → List Tag
server_after s t k = tags (apply_entries (start_list s.start) (take k t.log))

-- no two elements stand in the one order here and in the other there
abbrev pub AgreeInOrder : List Tag → List Tag → Type 0
AgreeInOrder xs ys = (a b : Tag) → IsBefore xs a b → IsBefore ys b a → ⊥

-- two elements of a client's list that also both stand in the server's list after some k log entries,
-- of that moment or of a later one of the run, stand in one order in both
abbrev pub ListsAgree : Type 0
ListsAgree =
    (s : Program) (p later k : ℕ) (q r : Place) (c : ℕ) (x : Client)
    → IsRunnable s → p ≤ later → place_at s p ≡ Some q → place_at s later ≡ Some r
    → slice_get q.state.clients c ≡ Some x → is_joined x.phase ≡ true
    → AgreeInOrder (tags x.list) (server_after s r.state k)

-- in a state the reader has this list, and has seen so many entries of the log
abbrev pub HasList : State → Reader → List Tag → ℕ → Type 0
HasList t (reader.Client c) list revision =
    (x : Client) × (slice_get t.clients c ≡ Some x) × (is_joined x.phase ≡ true) × (tags x.list ≡ list) × (x.revision ≡ revision)
HasList t reader.Server list revision = (tags t.server ≡ list) × (length t.log ≡ revision)

abbrev pub HoldsBoth : List Tag → Tag → Tag → Type 0
HoldsBoth list a b = IsTrue (contains list a) × IsTrue (contains list b)

-- of two different readers' lists that share two elements, at two moments of a run,
-- one has both already in the server's list at its revision
abbrev pub OneHasBoth : Type 0
OneHasBoth =
    (s : Program) (p p' : ℕ) (q q' : Place) (who who' : Reader) (u u' : List Tag) (revision revision' : ℕ) (a b : Tag)
    → IsRunnable s → place_at s p ≡ Some q → place_at s p' ≡ Some q'
    → HasList q.state who u revision → HasList q'.state who' u' revision' → (who ≡ who' → ⊥)
    → HoldsBoth u a b → HoldsBoth u' a b
    → HoldsBoth (server_after s q.state revision) a b ⊎ HoldsBoth (server_after s q'.state revision') a b
