use Rattle.std.proofs.Common.{◌≤◌, ◌<◌, ℕ}
use Rattle.ot_judge.specs.Views.{event_view}
use Rattle.ot_model.specs.Visibility.{seen_of}
use Rattle.ot_judge.proofs.visibility.sees_at_most.Given as goal

abbrev pub invariant-loop-r : goal.invariant-loop-r
invariant-loop-r l = (k : ℕ) → k < l.r → seen_of (event_view l.y) k ≤ seen_of (event_view l.x) k
