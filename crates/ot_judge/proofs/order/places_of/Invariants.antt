use Rattle.ot_judge.proofs.Rising.{IsIndexBelow}
use Rattle.ot_judge.proofs.order.places_of.Given as goal

abbrev pub invariant-loop-i : goal.invariant-loop-i
invariant-loop-i l = IsIndexBelow l.places l.xs l.i
