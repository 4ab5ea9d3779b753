-- Traces as lists: what each replica did, saw and returned.
use Rattle.std.specs.Prelude.{ℕ, Bool, false, List, [], ◌≡◌, ◌<◌, ◌≤◌, ◌==◌, ◌&&◌, ◌++◌, ◌≢◌, map, length, slice_index_or, count_by, AllPairs, All}
use Rattle.std.specs.List.{flat_map, list_any}
use Rattle.ot_isa.specs.declared.elements.Tag.{Tag}
use Rattle.ot_model.specs.declared.trace.Placed.{Placed}

-- tags are compared by a test that computes
abbrev pub same_tag : Tag → Tag → Bool
same_tag a b = (a.origin == b.origin) && (a.serial == b.serial)

abbrev pub contains : List Tag → Tag → Bool
contains tags a = list_any (same_tag a) tags

-- how often a tag stands in a list
abbrev pub occurrences : Tag → List Tag → ℕ
occurrences a tags = count_by (same_tag a) tags

-- a read, or an edit with what it inserted and deleted; `seen` counts the edits that it sees, by replica
pub record EventView : Type 0 where
  pub replica : ℕ
  pub edit : Bool
  pub seen : List ℕ
  pub inserted : List Placed
  pub deleted : List Tag
  pub list : List Tag

-- the replicas, the elements that all of them start with, and the events in their order in time
pub record TraceView : Type 0 where
  pub replicas : ℕ
  pub start : List Tag
  pub events : List EventView

abbrev pub inserted_tags : EventView → List Tag
inserted_tags x = map (λ (p : Placed). p.tag) x.inserted

-- what stands past the last event
abbrev pub no_event : EventView
no_event = record { replica = 0; edit = false; seen = []; inserted = []; deleted = []; list = [] }

abbrev pub event_at : List EventView → ℕ → EventView
event_at events e = slice_index_or events e no_event

-- an event fits the number of replicas, and a read changes nothing
pub record IsEvent (replicas : ℕ) (x : EventView) : Type 0 where
  pub replica : x.replica < replicas
  pub seen : length x.seen ≡ replicas
  pub read_inserts : x.edit ≡ false → x.inserted ≡ []
  pub read_deletes : x.edit ≡ false → x.deleted ≡ []

-- what every trace is: no tag is inserted twice, the start included, and each event fits
pub record IsTrace (t : TraceView) : Type 0 where
  pub some_replica : 1 ≤ t.replicas
  pub few_replicas : t.replicas ≤ 65
  pub inserted_once : AllPairs (λ a b. a ≢ b) (t.start ++ flat_map inserted_tags t.events)
  pub events : All (IsEvent t.replicas) t.events
