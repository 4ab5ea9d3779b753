use Rattle.std.proofs.Common.{◌≡◌, None, replicate}
use Rattle.ot_board.proofs.board.empty_slots.Given as goal

abbrev pub invariant-loop-place : goal.invariant-loop-place
invariant-loop-place l = l.slots.items ≡ replicate l.place None
