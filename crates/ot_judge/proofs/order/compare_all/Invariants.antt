use Rattle.std.proofs.Common.{◌<◌, ℕ, map}
use Rattle.ot_judge.specs.Ranks.{IsCompared}
use Rattle.ot_judge.proofs.order.compare_all.Given as goal

abbrev pub invariant-loop-d : goal.invariant-loop-d
invariant-loop-d l = (d : ℕ) → d < l.d → IsCompared (map (λ v. v.items) l.lists) d
