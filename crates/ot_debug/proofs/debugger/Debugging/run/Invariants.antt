use Rattle.ot_debug.proofs.Stopping.{IsOnWay}
use Rattle.ot_debug.proofs.debugger.Debugging.run.Given as goal

abbrev pub invariant-loop-place : goal.invariant-loop-place
invariant-loop-place g l = IsOnWay l.fn.self l.self l.place
