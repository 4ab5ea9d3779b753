use Rattle.std.proofs.Common.{arith}
use Rattle.std.specs.Option.{option_map}
use Rattle.ot_machine.specs.Effects.{reader_of, shown_by}
use Rattle.ot_model.proofs.Runs.{state_begun, state_next}
use Rattle.ot_rules.proofs.Reached.{is_nowhere, is_there}
use Rattle.ot_rules.proofs.explaining.machine_at.Goals as goal

pub loop-number-init : goal.loop-number-init
loop-number-init c = state_begun c.args.schedule.now c.in_ok-machine.machine c.in_ok-machine.ensures

pub loop-number-preserved : goal.loop-number-preserved
loop-number-preserved c =
    let t = c.perform.new.self in
    state_next c.args.schedule.now c.loop-number.number c.in-Some.instr.now c.loop-number.machine t (option_map (shown_by t) (reader_of c.in-Some.instr.now)) c.loop-number.invariant c.in-Some.ensures.some c.in_default-perform.ensures.effect.led

pub returns-in-Err : goal.returns-in-Err
returns-in-Err c =
    is_nowhere c.args.schedule.now c.loop-number.number c.args.place c.in-Some.instr.now c.in-Err.refusal c.loop-number.machine
    c.loop-number.invariant c.in-Some.ensures.some c.in-Err.ensures.refused c.in_ok-only_refused.ensures c.loop-number-test.true c.requires

pub returns : goal.returns
returns c = is_there c.args.schedule.now c.loop-number.number c.args.place c.loop-number.machine (omega arith) (omega arith) c.loop-number.invariant
