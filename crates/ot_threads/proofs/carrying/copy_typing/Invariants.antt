use Rattle.std.proofs.Common.{◌≡◌, ◌++◌, drop}
use Rattle.ot_plan.specs.Typing.{typing_view}
use Rattle.ot_threads.proofs.carrying.copy_typing.Given as goal

abbrev pub invariant-loop-actions : goal.invariant-loop-actions
invariant-loop-actions l = typing_view l.rows.items ++ typing_view (drop l.actions-index l.typing) ≡ typing_view l.typing
