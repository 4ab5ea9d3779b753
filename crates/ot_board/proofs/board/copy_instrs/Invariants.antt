use Rattle.std.proofs.Common.{◌≡◌, take}
use Rattle.ot_board.proofs.board.copy_instrs.Given as goal

abbrev pub invariant-loop-instr : goal.invariant-loop-instr
invariant-loop-instr l = l.copies.items ≡ take l.instr-index l.instrs
