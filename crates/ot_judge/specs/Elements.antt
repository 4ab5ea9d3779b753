-- The elements of a trace and the events that delete each.
use Rattle.std.specs.Prelude.{ℕ, List, Some, true, ◌≡◌, ◌<◌, ◌≤◌, ◌⊎◌}
use Rattle.std.specs.List.{Contains}
use Rattle.ot_judge.specs.declared.elements.Element.{Element}
use Rattle.ot_model.specs.Trace.{EventView, contains, event_at}

-- the event at d is noted as one that deletes the element
abbrev pub IsDeletedBy : Element → ℕ → Type 0
IsDeletedBy x d = (x.last ≡ Some d) ⊎ Contains x.others.items d

-- an event of the replica is noted
pub record OfReplica (events : List EventView) (x : Element) (replica : ℕ) : Type 0 where
  pub event : ℕ
  pub noted : IsDeletedBy x event
  pub same : (event_at events event).replica ≡ replica

-- an event is noted that comes no later than the one at d and is of its replica
pub record Covers (events : List EventView) (x : Element) (d : ℕ) : Type 0 where
  pub event : ℕ
  pub noted : IsDeletedBy x event
  pub no_later : event ≤ d
  pub same : (event_at events event).replica ≡ (event_at events d).replica

-- of the first n events, those that are noted delete the element, and each that deletes it is covered
pub record IsElement (events : List EventView) (n : ℕ) (x : Element) : Type 0 where
  pub within : (d : ℕ) → IsDeletedBy x d → d < n
  pub deletes : (d : ℕ) → IsDeletedBy x d → contains (event_at events d).deleted x.tag ≡ true
  pub covers : (d : ℕ) → d < n → contains (event_at events d).deleted x.tag ≡ true → Covers events x d
