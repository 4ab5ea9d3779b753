use Rattle.std.proofs.Common.{◌≤◌, ◌<◌, ℕ}
use Rattle.std.specs.Prelude.{IsTrue}
use Rattle.ot_model.specs.Trace.{event_at}
use Rattle.ot_judge.specs.Views.{views}
use Rattle.ot_model.specs.Visibility.{seen_of, follows}
use Rattle.ot_judge.proofs.visibility.sees_closed.Given as goal

abbrev pub invariant-loop-d : goal.invariant-loop-d
invariant-loop-d l = (d : ℕ) → d < l.d → IsTrue (follows (views l.events) l.e d) → (r : ℕ) → seen_of (event_at (views l.events) d) r ≤ seen_of (event_at (views l.events) l.e) r
