use Rattle.std.proofs.Common.{◌≤◌, ◌<◌, ℕ}
use Rattle.ot_model.specs.Trace.{event_at}
use Rattle.ot_judge.specs.Views.{views}
use Rattle.ot_model.specs.Visibility.{seen_of, edits_before}
use Rattle.ot_judge.proofs.visibility.sees_past.Given as goal

abbrev pub invariant-loop-r : goal.invariant-loop-r
invariant-loop-r l = (k : ℕ) → k < l.r → seen_of (event_at (views l.events) l.e) k ≤ edits_before (views l.events) l.e k
