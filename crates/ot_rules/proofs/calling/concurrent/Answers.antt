use Rattle.std.proofs.Common.{arith, length, sym, ◌≤◌}
use Rattle.ot_rules.proofs.Reached.{gathered, gathered_all}
use Rattle.ot_rules.proofs.calling.concurrent.Goals as goal

pub loop-number-preserved : goal.loop-number-preserved
loop-number-preserved c =
    gathered c.loop-number.operations.items c.push.new.self.items c.args.machine.now.log c.loop-number.number _ c.in-Some.entry.now c.in_ok-plain_operation.field-0 c.operation.result.now
    (sym c.in-Some.ensures) c.operation.ensures c.in_ok-plain_operation.ensures c.loop-number.invariant c.in_ok-push.ensures.items

pub returns : goal.returns
returns c =
    let past : length c.args.machine.now.log ≤ c.loop-number.number = omega arith in
    gathered_all c.loop-number.operations.items c.args.machine.now.log c.loop-number.number _ past c.loop-number.invariant
