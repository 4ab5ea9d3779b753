use Rattle.std.proofs.Common.{◌≡◌, ◌++◌, drop}
use Rattle.std.specs.Prelude.{map}
use Rattle.ot_plan.specs.Typing.{action_view, row_view}
use Rattle.ot_threads.proofs.carrying.copy_row.Given as goal

abbrev pub invariant-loop-action : goal.invariant-loop-action
invariant-loop-action l = row_view l.row ++ map action_view (drop l.action-index l.actions) ≡ map action_view l.actions
