use Rattle.std.proofs.Common.{◌-◌, ◌≤◌}
use Rattle.ot_list.proofs.Moved.{IsDown}
use Rattle.ot_list.proofs.blocks.move_down.Given as goal

abbrev pub invariant-loop-done : goal.invariant-loop-done
invariant-loop-done g l = IsDown l.initial.items l.items l.from l.to l.count l.done × (l.done ≤ l.count)

abbrev pub decreases-loop-done : goal.decreases-loop-done
decreases-loop-done g l = l.count - l.done
