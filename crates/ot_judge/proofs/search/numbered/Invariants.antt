use Rattle.std.proofs.Common.{◌≡◌, map, take}
use Rattle.ot_judge.specs.Ranks.{rank_of}
use Rattle.ot_judge.proofs.search.numbered.Given as goal

abbrev pub invariant-loop-v : goal.invariant-loop-v
invariant-loop-v l = map (λ w. w.items) l.all.items ≡ map (map (rank_of l.numbers)) (map (λ w. w.items) (take l.v-index l.lists))
