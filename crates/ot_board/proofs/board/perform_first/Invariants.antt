use Rattle.std.proofs.Common.{take}
use Rattle.ot_model.specs.Session.{RunsTo}
use Rattle.ot_board.proofs.board.perform_first.Given as goal

abbrev pub invariant-loop-place : goal.invariant-loop-place
invariant-loop-place l = RunsTo l.fn.machine (take l.place l.steps) l.machine
