use Rattle.ot_judge.proofs.Filtered.{RisesTo}
use Rattle.ot_judge.proofs.ranks.never_falls.Given as goal

abbrev pub invariant-loop-i : goal.invariant-loop-i
invariant-loop-i l = RisesTo l.ranks l.xs l.i l.highest
