use Rattle.std.proofs.Common.{◌≡◌, ◌+◌, ◌≤◌, length}
use Rattle.ot_board.specs.Boards.{with_steps}
use Rattle.ot_board.proofs.board.append_all.Given as goal

abbrev pub invariant-loop-instr : goal.invariant-loop-instr
invariant-loop-instr l = (l.builder.program ≡ with_steps l.fn.builder.program l.yielded) × (length l.fn.instrs.items ≤ l.builder.room + length l.yielded)
