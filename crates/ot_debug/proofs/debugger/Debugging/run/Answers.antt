use Rattle.std.proofs.Common.{refl, rules}
use Rattle.ot_debug.proofs.Stopping.{on_way_next, stop_break, stop_halted, stop_watch}
use Rattle.ot_debug.proofs.debugger.Debugging.run.Goals as goal

pub returns-in-Ok-Some : goal.returns-in-Ok-Some
returns-in-Ok-Some g c =
    stop_watch c.args.self.now c.loop-place.self c.forward_watched.new.self c.loop-place.place c.in-Ok-Some.number c.loop-place.invariant (search rules) c.in-Ok-Some.ensures.done
    (rw c.in-Ok-Some.field-0-is at c.in-Ok-Some.ensures.watch)

pub returns-in-Err : goal.returns-in-Err
returns-in-Err g c =
    stop_halted c.args.self.now c.loop-place.self c.forward_watched.new.self c.loop-place.place c.in-Err.refusal c.halted.result c.loop-place.invariant
    c.in-Err.ensures.unchanged c.in-Err.ensures.refused c.halted.ensures.memory c.halted.ensures.other

pub returns-then-is_break : goal.returns-then-is_break
returns-then-is_break g c =
    stop_break c.args.self.now c.loop-place.self c.forward_watched.new.self c.loop-place.place c.loop-place.invariant (search rules) c.in-Ok-None.ensures.done
    (rw c.in-Ok-None.field-0-is at c.in-Ok-None.ensures.watch) (c.if-is_break.ensures.0 refl)

pub loop-place-preserved : goal.loop-place-preserved
loop-place-preserved g c =
    on_way_next c.args.self.now c.loop-place.self c.forward_watched.new.self c.loop-place.place c.loop-place.invariant (search rules) c.in-Ok-None.ensures.done
    (rw c.in-Ok-None.field-0-is at c.in-Ok-None.ensures.watch) (search rules)
