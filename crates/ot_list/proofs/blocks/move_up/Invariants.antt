use Rattle.std.proofs.Common.{◌≤◌}
use Rattle.ot_list.proofs.Moved.{IsUp}
use Rattle.ot_list.proofs.blocks.move_up.Given as goal

abbrev pub invariant-loop-ahead : goal.invariant-loop-ahead
invariant-loop-ahead g l = IsUp l.initial.items l.items l.from l.to l.count l.ahead × (l.ahead ≤ l.count)

abbrev pub decreases-loop-ahead : goal.decreases-loop-ahead
decreases-loop-ahead g l = l.ahead
