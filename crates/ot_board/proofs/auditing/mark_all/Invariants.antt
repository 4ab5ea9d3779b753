use Rattle.std.proofs.Common.{◌≡◌, ℕ, ◌+◌, ◌<◌, length, take}
use Rattle.std.specs.Prelude.{slice_index}
use Rattle.ot_board.specs.Tiling.{capped, times_in}
use Rattle.ot_board.proofs.auditing.mark_all.Given as goal

abbrev pub invariant-loop-receipt : goal.invariant-loop-receipt
invariant-loop-receipt l =
    (at : ℕ) → at < length l.marks → slice_index l.marks at ≡ capped (slice_index l.fn.marks at + times_in at (take l.receipt-index l.receipts))
