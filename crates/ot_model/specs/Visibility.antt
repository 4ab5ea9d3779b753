-- What an event sees of the others.
use Rattle.std.specs.Prelude.{ℕ, Bool, List, ◌≡◌, ◌<◌, ◌≤◌, ◌==◌, ◌&&◌, ◌||◌, nat_lt, take, slice_index, count_by, IsTrue}
use Rattle.ot_model.specs.Trace.{EventView, event_at}

abbrev pub is_edit_of : ℕ → EventView → Bool
is_edit_of replica x = x.edit && (x.replica == replica)

-- how many edits of a replica stand before the event at e
abbrev pub edits_before : List EventView → ℕ → ℕ → ℕ
edits_before events e replica = count_by (is_edit_of replica) (take e events)

-- how many edits of a replica an event sees
abbrev pub seen_of : EventView → ℕ → ℕ
seen_of x replica = slice_index x.seen replica

-- whether the event at e sees the one at d: an edit among the first ones of its replica that e counts
abbrev pub sees : List EventView → ℕ → ℕ → Bool
sees events e d =
    (event_at events d).edit
    && nat_lt (edits_before events d (event_at events d).replica) (seen_of (event_at events e) (event_at events d).replica)

-- whether e has to see what d sees: d is a seen edit or an earlier event of e's replica
abbrev pub follows : List EventView → ℕ → ℕ → Bool
follows events e d = sees events e d || ((event_at events d).replica == (event_at events e).replica)

-- the event at e sees exactly its replica's own earlier edits, nothing that comes later, and what the events it follows see
pub record SeesRightly (events : List EventView) (e : ℕ) : Type 0 where
  pub own : seen_of (event_at events e) (event_at events e).replica ≡ edits_before events e (event_at events e).replica
  pub past : (replica : ℕ) → seen_of (event_at events e) replica ≤ edits_before events e replica
  pub closed : (d : ℕ) → d < e → IsTrue (follows events e d) → (replica : ℕ) → seen_of (event_at events d) replica ≤ seen_of (event_at events e) replica
