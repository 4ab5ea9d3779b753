use Rattle.std.proofs.Common.{◌≡◌}
use Rattle.std.specs.Prelude.{None}
use Rattle.ot_judge.specs.Views.{views}
use Rattle.ot_report.specs.Causes.{passed_at}
use Rattle.ot_report.specs.Searches.{first_below}
use Rattle.ot_report.proofs.causes.first_passed.Given as goal

abbrev pub invariant-loop-r : goal.invariant-loop-r
invariant-loop-r l = first_below l.r (passed_at (views l.events) l.e) ≡ None
