use Rattle.std.proofs.Common.{take}
use Rattle.std.specs.Prelude.{All}
use Rattle.ot_judge.specs.Ranks.{IsAccounted}
use Rattle.ot_judge.proofs.ranks.crowded_ranks.Given as goal

abbrev pub invariant-loop-v : goal.invariant-loop-v
invariant-loop-v l = All (λ w. IsAccounted l.ranks l.owners l.crowded w.items) (take l.v-index l.lists)
