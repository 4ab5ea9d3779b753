use Rattle.std.proofs.Common.{◌≡◌, ◌+◌, map, take}
use Rattle.ot_plan.specs.Typing.{action_view, inserted}
use Rattle.ot_workers.proofs.sharing.insert_at_most.Given as goal

abbrev pub invariant-loop-action : goal.invariant-loop-action
invariant-loop-action l = inserted (map action_view (take l.action-index l.actions)) + l.left ≡ l.most
