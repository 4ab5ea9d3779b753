use Rattle.std.proofs.Common.{◌≡◌, ℕ, ◌+◌, ◌<◌, length}
use Rattle.std.specs.Prelude.{◌&&◌, nat_le, nat_lt, slice_index, if◌then◌else◌}
use Rattle.ot_board.specs.Tiling.{capped}
use Rattle.ot_board.proofs.auditing.mark.Given as goal

abbrev pub invariant-loop-at : goal.invariant-loop-at
invariant-loop-at l = (k : ℕ) → k < length l.marks → slice_index l.marks k ≡ (if nat_le l.receipt.first k && nat_lt k l.at then capped (slice_index l.fn.marks k + 1) else slice_index l.fn.marks k)
