use Rattle.std.proofs.Common.{sym, subst}
use Rattle.ot_steps.specs.Held.{IsHeld}
use Rattle.ot_steps.proofs.Progress.{did, leads_within}
use Rattle.ot_steps.proofs.writing.perform_and_write.Goals as goal

pub write-requires : goal.write-requires
write-requires c =
    subst IsHeld (sym c.step-line.ensures)
    (leads_within c.args.machine.now c.perform.new.self c.args.instr.now (did _ _ _ c.in-Ok.effect c.in-Ok.ensures.effect))
