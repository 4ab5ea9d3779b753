use Rattle.std.proofs.Common.{◌≡◌, ◌+◌, ◌-◌, ◌≤◌, length, take, drop}
use Rattle.ot_list.specs.Leaves.{concatenated}
use Rattle.ot_list.proofs.list.List.skip_blocks.Given as goal

abbrev pub invariant-loop-place : goal.invariant-loop-place
invariant-loop-place g l = (l.from ≤ l.place) × (l.place ≤ length l.self) × (length (concatenated (take (l.place - l.from) (drop l.from l.self))) + l.left ≡ l.count)

abbrev pub decreases-loop-place : goal.decreases-loop-place
decreases-loop-place g l = length l.self - l.place
