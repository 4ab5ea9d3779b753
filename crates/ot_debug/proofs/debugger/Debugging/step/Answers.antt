use Rattle.std.proofs.Common.{rules}
use Rattle.ot_debug.proofs.Stopping.{steps_ended, steps_halted}
use Rattle.ot_debug.proofs.debugger.Debugging.step.Goals as goal

pub returns-then-at-end : goal.returns-then-at-end
returns-then-at-end g c =
    steps_ended c.args.self.now c.loop-performed.self c.loop-performed.performed c.args.count c.position-at.result c.loop-performed.invariant c.loop-performed-test.true c.position-at.ensures (search rules)

pub returns-in-Err : goal.returns-in-Err
returns-in-Err g c =
    steps_halted c.args.self.now c.loop-performed.self c.forward.new.self c.loop-performed.performed c.args.count c.position-at.result c.in-Err.refusal c.halted.result c.loop-performed.invariant c.loop-performed-test.true
    c.in-Err.ensures.unchanged c.position-at.ensures c.in-Err.ensures.refused c.halted.ensures.memory c.halted.ensures.other
