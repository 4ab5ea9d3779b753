use Rattle.std.proofs.Common.{arith, refl}
use Rattle.ot_model.proofs.Runs.{state_next}
use Rattle.ot_machine.proofs.Ended.{is_stopped, is_whole}
use Rattle.ot_machine.proofs.running.run_on.Goals as goal

pub returns-in-Err : goal.returns-in-Err
returns-in-Err c =
    is_stopped c.args.schedule.now c.loop-place.place c.in-Some.instr.now c.in-Err.refusal c.loop-place.machine _
    c.loop-place.invariant c.in-Some.ensures.some c.in-Err.ensures.refused c.in-Err.ensures.unchanged refl

pub loop-place-preserved : goal.loop-place-preserved
loop-place-preserved c =
    state_next c.args.schedule.now c.loop-place.place c.in-Some.instr.now c.loop-place.machine c.perform.new.self _
    c.loop-place.invariant c.in-Some.ensures.some c.in-Ok.ensures.effect.led

pub returns : goal.returns
returns c =
    is_whole c.args.schedule.now c.loop-place.place c.loop-place.machine _ c.loop-place.invariant (omega (arith, c.loop-place-test.false, c.len-place-end.ensures)) (omega (arith, c.loop-place.auto.place-end, c.len-place-end.ensures)) refl refl
