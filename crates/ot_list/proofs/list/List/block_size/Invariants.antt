use Rattle.std.proofs.Common.{◌≡◌, ◌-◌, ◌*◌, ◌≤◌, length, take, drop}
use Rattle.ot_list.specs.Leaves.{concatenated}
use Rattle.ot_list.proofs.list.List.block_size.Given as goal

abbrev pub invariant-loop-next : goal.invariant-loop-next
invariant-loop-next g l = (l.items ≡ length (concatenated (take (l.next - l.place) (drop l.place l.self)))) × (l.items ≤ (l.next - l.place) * 4294967296)
