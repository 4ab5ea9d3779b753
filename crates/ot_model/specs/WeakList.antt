-- The weak list property of a trace (Attiya et al., PODC 2016).
use Rattle.std.specs.Prelude.{ℕ, Bool, List, [], ◌≡◌, ◌<◌, ◌==◌, ◌||◌, ◌++◌, Some, not, if◌then◌else◌, length, map, filter, slice_get, slice_index_or, All}
use Rattle.std.specs.List.{flat_map, range_with_len}
use Rattle.ot_isa.specs.declared.elements.Tag.{Tag}
use Rattle.ot_model.specs.declared.trace.Placed.{Placed}
use Rattle.ot_model.specs.Trace.{EventView, TraceView, contains, occurrences, event_at, inserted_tags}
use Rattle.ot_model.specs.Visibility.{SeesRightly, sees}

-- the event at e knows its own edit and each that it sees
abbrev pub knows : List EventView → ℕ → ℕ → Bool
knows events e d = (d == e) || sees events e d

-- what the events that e knows give, by event
abbrev pub from_known : List EventView → ℕ → (EventView → List Tag) → List Tag
from_known events e part = flat_map (λ d. if knows events e d then part (event_at events d) else []) (range_with_len 0 (length events))

abbrev pub known_insertions : List Tag → List EventView → ℕ → List Tag
known_insertions start events e = start ++ from_known events e inserted_tags

abbrev pub known_deletions : List EventView → ℕ → List Tag
known_deletions events e = from_known events e (λ x. x.deleted)

-- what the list of the event at e must hold: what is known as inserted and not as deleted
abbrev pub required : List Tag → List EventView → ℕ → List Tag
required start events e = filter (λ a. not (contains (known_deletions events e) a)) (known_insertions start events e)

-- a stands before b in a list
pub record IsBefore {A : Type 0} (xs : List A) (a b : A) : Type 0 where
  pub first : ℕ
  pub second : ℕ
  pub order : first < second
  pub within : second < length xs
  pub here : slice_index_or xs first a ≡ a
  pub there : slice_index_or xs second b ≡ b

abbrev pub nth : {A : Type 0} → List (List A) → ℕ → List A
nth lists e = slice_index_or lists e []

-- a before b in the list at d, and b before a in the later list at e
pub record IsReversed {A : Type 0} (lists : List (List A)) (d e : ℕ) (a b : A) : Type 0 where
  pub later : d < e
  pub forth : IsBefore (nth lists d) a b
  pub back : IsBefore (nth lists e) b a

abbrev pub lists : List EventView → List (List Tag)
lists events = map (λ (x : EventView). x.list) events

-- what one event owes: what it sees, what its list holds, and where its inserted elements stand in it
pub record EventHolds (start : List Tag) (events : List EventView) (e : ℕ) : Type 0 where
  pub visibility : SeesRightly events e
  pub contents : (a : Tag) → occurrences a (event_at events e).list ≡ (if contains (required start events e) a then 1 else 0)
  pub places : All (λ (p : Placed). slice_get (event_at events e).list p.place ≡ Some p.tag) (event_at events e).inserted

-- the weak list property: each event holds, and no two elements stand in one order in one list and in the other in another
pub record WeakListProperty (t : TraceView) : Type 0 where
  pub events : (e : ℕ) → e < length t.events → EventHolds t.start t.events e
  pub one_order : (d e : ℕ) (a b : Tag) → ¬ IsReversed (lists t.events) d e a b
