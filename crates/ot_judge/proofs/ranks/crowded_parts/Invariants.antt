use Rattle.std.proofs.Common.{take, ◌≡◌, map}
use Rattle.std.specs.Prelude.{filter}
use Rattle.ot_judge.specs.Ranks.{is_crowded}
use Rattle.ot_judge.proofs.ranks.crowded_parts.Given as goal

abbrev pub invariant-loop-v : goal.invariant-loop-v
invariant-loop-v l = map (λ w. w.items) l.parts.items ≡ map (filter (is_crowded l.ranks l.crowded)) (map (λ w. w.items) (take l.v-index l.lists))
