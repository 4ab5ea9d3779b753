use Rattle.std.proofs.Common.{ℕ, ◌<◌}
use Rattle.ot_board.specs.Tiling.{IsBackwards}
use Rattle.ot_board.proofs.auditing.first_backwards.Given as goal

abbrev pub invariant-loop-i : goal.invariant-loop-i
invariant-loop-i l = (j : ℕ) → j < l.i → IsBackwards l.receipts j → ⊥
