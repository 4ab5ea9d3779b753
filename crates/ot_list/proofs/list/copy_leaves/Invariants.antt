use Rattle.std.proofs.Common.{◌≡◌, map, take}
use Rattle.ot_list.proofs.list.copy_leaves.Given as goal

abbrev pub invariant-loop-leaf : goal.invariant-loop-leaf
invariant-loop-leaf g l = map (λ v. v.items) l.copies.items ≡ map (λ v. v.items) (take l.leaf-index l.leaves)
