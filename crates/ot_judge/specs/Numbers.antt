-- The number of each event among the edits of its replica.
use Rattle.std.specs.Prelude.{ℕ, List, ◌≡◌, ◌<◌, slice_index, length}
use Rattle.ot_model.specs.Trace.{EventView, event_at}
use Rattle.ot_model.specs.Visibility.{edits_before}

-- for each event, how many edits of its replica stand before it
pub record IsNumbered (events : List EventView) (numbers : List ℕ) : Type 0 where
  pub long : length numbers ≡ length events
  pub each : (d : ℕ) → d < length events → slice_index numbers d ≡ edits_before events d (event_at events d).replica
