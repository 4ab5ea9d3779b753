use Rattle.std.specs.Prelude.{All, take}
use Rattle.ot_judge.specs.Ranks.{Climbs}
use Rattle.ot_judge.proofs.order.all_climb.Given as goal

abbrev pub invariant-loop-v : goal.invariant-loop-v
invariant-loop-v l = All (λ w. Climbs l.places w.items) (take l.v-index l.lists)
