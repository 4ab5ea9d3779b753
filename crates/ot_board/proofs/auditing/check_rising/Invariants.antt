use Rattle.std.proofs.Common.{take}
use Rattle.std.specs.List.{All}
use Rattle.ot_board.specs.Tiling.{AreRising, lists}
use Rattle.ot_board.proofs.auditing.check_rising.Given as goal

abbrev pub invariant-loop-w : goal.invariant-loop-w
invariant-loop-w l = All AreRising (take l.w (lists l.workers))
