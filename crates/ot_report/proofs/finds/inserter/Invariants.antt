use Rattle.std.proofs.Common.{◌≡◌}
use Rattle.std.specs.Prelude.{None}
use Rattle.ot_judge.specs.Views.{views}
use Rattle.ot_report.specs.Finds.{inserter_at}
use Rattle.ot_report.specs.Searches.{first_below}
use Rattle.ot_report.proofs.finds.inserter.Given as goal

abbrev pub invariant-loop-d : goal.invariant-loop-d
invariant-loop-d l = first_below l.d (inserter_at (views l.events) l.e l.tag) ≡ None
