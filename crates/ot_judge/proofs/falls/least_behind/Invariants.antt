use Rattle.ot_judge.proofs.Seated.{LeastBehind}
use Rattle.ot_judge.proofs.falls.least_behind.Given as goal

abbrev pub invariant-loop-i : goal.invariant-loop-i
invariant-loop-i l = LeastBehind l.seats l.xs l.behind.items l.from l.to l.i l.least

abbrev pub decreases-loop-i : goal.decreases-loop-i
decreases-loop-i l = l.i
