use Rattle.ot_judge.proofs.Seated.{KeptFalls}
use Rattle.ot_judge.proofs.falls.fallen.Given as goal

abbrev pub invariant-loop-i : goal.invariant-loop-i
invariant-loop-i l = KeptFalls l.seats l.xs l.behind.items l.kept.items l.from l.to l.i l.highest
