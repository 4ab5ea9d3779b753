use Rattle.std.proofs.Common.{◌≡◌}
use Rattle.std.specs.Prelude.{None}
use Rattle.ot_judge.specs.Views.{event_view}
use Rattle.ot_report.specs.Causes.{more_at}
use Rattle.ot_report.specs.Searches.{first_below}
use Rattle.ot_report.proofs.causes.first_lacked.Given as goal

abbrev pub invariant-loop-r : goal.invariant-loop-r
invariant-loop-r l = first_below l.r (more_at (event_view l.y) (event_view l.x)) ≡ None
