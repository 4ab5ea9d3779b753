use Rattle.std.proofs.Common.{◌≡◌, ◌+◌, ◌-◌, length, take, drop}
use Rattle.ot_list.specs.Leaves.{concatenated}
use Rattle.ot_list.proofs.list.List.find.Given as goal

abbrev pub invariant-loop-place : goal.invariant-loop-place
invariant-loop-place g l = length (concatenated (take (l.place - l.from) (drop l.from l.self))) + l.left ≡ l.count
