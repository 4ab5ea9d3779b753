use Rattle.ot_judge.proofs.Seated.{SeatedTo}
use Rattle.ot_judge.proofs.seats.is_seated.Given as goal

abbrev pub invariant-loop-i : goal.invariant-loop-i
invariant-loop-i l = SeatedTo l.seats l.xs l.turn l.i l.last
