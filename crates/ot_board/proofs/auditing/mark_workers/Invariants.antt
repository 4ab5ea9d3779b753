use Rattle.std.proofs.Common.{take}
use Rattle.ot_board.specs.Tiling.{AreMarks, lists}
use Rattle.ot_board.proofs.auditing.mark_workers.Given as goal

abbrev pub invariant-loop-w : goal.invariant-loop-w
invariant-loop-w l = AreMarks l.marks (take l.w (lists l.workers))
