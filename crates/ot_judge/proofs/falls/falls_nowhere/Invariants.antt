use Rattle.ot_judge.proofs.Seated.{NoneFalls}
use Rattle.ot_judge.proofs.falls.falls_nowhere.Given as goal

abbrev pub invariant-loop-i : goal.invariant-loop-i
invariant-loop-i l = NoneFalls l.seats l.xs l.from l.to l.i l.highest
