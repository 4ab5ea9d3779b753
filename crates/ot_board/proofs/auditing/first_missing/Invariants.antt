use Rattle.std.proofs.Common.{take}
use Rattle.std.specs.List.{All}
use Rattle.ot_board.specs.Tiling.{IsThere}
use Rattle.ot_board.proofs.auditing.first_missing.Given as goal

abbrev pub invariant-loop-i : goal.invariant-loop-i
invariant-loop-i l = All (IsThere l.log.instrs) (take l.i l.receipts)
