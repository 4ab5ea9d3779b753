use Rattle.std.specs.Prelude.{All, take}
use Rattle.ot_judge.specs.Ranks.{NeverFalls}
use Rattle.ot_judge.proofs.ranks.never_fall.Given as goal

abbrev pub invariant-loop-v : goal.invariant-loop-v
invariant-loop-v l = All (λ w. NeverFalls l.ranks w.items) (take l.v-index l.lists)
