use Rattle.std.proofs.Common.{◌<◌, ℕ, map}
use Rattle.ot_judge.specs.Replicas.{IsSettled}
use Rattle.ot_judge.proofs.search.suspected.Given as goal

abbrev pub invariant-loop-r : goal.invariant-loop-r
invariant-loop-r l = (r : ℕ) → r < l.r → IsSettled l.actors l.sizes.items (map (λ v. v.items) l.lists) r
