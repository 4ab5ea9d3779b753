use Rattle.ot_judge.proofs.Rising.{Rises}
use Rattle.ot_judge.proofs.order.first_fall.Given as goal

abbrev pub invariant-loop-i : goal.invariant-loop-i
invariant-loop-i l = Rises l.xs l.ys l.i l.last
