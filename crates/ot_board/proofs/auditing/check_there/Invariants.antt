use Rattle.std.proofs.Common.{take}
use Rattle.std.specs.List.{All}
use Rattle.ot_board.specs.Tiling.{IsThere, lists}
use Rattle.ot_board.proofs.auditing.check_there.Given as goal

abbrev pub invariant-loop-w : goal.invariant-loop-w
invariant-loop-w l = All (All (IsThere l.log.instrs)) (take l.w (lists l.workers))
