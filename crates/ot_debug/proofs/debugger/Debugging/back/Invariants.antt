use Rattle.std.proofs.Common.{◌≤◌}
use Rattle.ot_debug.specs.Answers.{Keeps}
use Rattle.ot_debug.proofs.debugger.Debugging.back.Given as goal

abbrev pub invariant-loop-self : goal.invariant-loop-self
invariant-loop-self g l = record { keeps : Keeps l.fn.self l.self; onward : l.target ≤ l.self.position; back : l.self.position ≤ l.fn.self.position }

abbrev pub decreases-loop-self : goal.decreases-loop-self
decreases-loop-self g l = l.self.position
