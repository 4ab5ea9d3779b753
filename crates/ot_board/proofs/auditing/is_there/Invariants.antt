use Rattle.std.proofs.Common.{◌≡◌, take, drop}
use Rattle.ot_board.proofs.auditing.is_there.Given as goal

abbrev pub invariant-loop-place : goal.invariant-loop-place
invariant-loop-place l = take l.place (drop l.receipt.first l.log.instrs) ≡ take l.place l.receipt.steps.items
