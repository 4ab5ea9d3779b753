use Rattle.ot_debug.proofs.Stopping.{IsStepped}
use Rattle.ot_debug.proofs.debugger.Debugging.step.Given as goal

abbrev pub invariant-loop-performed : goal.invariant-loop-performed
invariant-loop-performed g l = IsStepped l.fn.self l.self l.performed
