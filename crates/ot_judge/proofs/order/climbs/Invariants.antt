use Rattle.ot_judge.proofs.Climbing.{ClimbsTo}
use Rattle.ot_judge.proofs.order.climbs.Given as goal

abbrev pub invariant-loop-i : goal.invariant-loop-i
invariant-loop-i l = ClimbsTo l.places l.xs l.i l.last
