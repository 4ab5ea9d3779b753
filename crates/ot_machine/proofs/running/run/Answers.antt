use Rattle.std.proofs.Common.{rules, refl}
use Rattle.ot_machine.proofs.Stopping.{place_next, stopped_run, whole_run}
use Rattle.ot_machine.proofs.running.run.Goals as goal

pub returns-in-Err : goal.returns-in-Err
returns-in-Err c =
    stopped_run c.args.schedule.now c.loop-place.place (record { state = c.loop-place.machine; shown = c.loop-place.shown.items }) c.in-Some.instr.now c.in-Err.refusal _
    c.loop-place.invariant c.in-Some.ensures.some c.in-Err.ensures.refused c.in-Err.ensures.unchanged c.in-Err.ensures.kept refl

pub loop-place-preserved : goal.loop-place-preserved
loop-place-preserved c =
    place_next c.args.schedule.now c.loop-place.place _ (record { state = c.loop-place.machine; shown = c.loop-place.shown.items }) (record { state = c.keep.new.self; shown = c.keep.new.shown.items }) c.in-Some.instr.now
    refl c.loop-place.invariant c.in-Some.ensures.some (search rules)

pub returns : goal.returns
returns c =
    whole_run c.args.schedule.now c.loop-place.place (record { state = c.loop-place.machine; shown = c.loop-place.shown.items }) _
    (search rules) (search rules) c.loop-place.invariant refl refl refl
