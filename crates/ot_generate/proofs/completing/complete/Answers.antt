use Rattle.std.proofs.Common.{subst, sym}
use Rattle.ot_isa.specs.Program.{Program}
use Rattle.ot_generate.specs.Completed.{IsCompletion}
use Rattle.ot_generate.proofs.Draining.{completed, stuck}
use Rattle.ot_generate.proofs.completing.complete.Goals as goal

pub returns-in-Ok-drain-clause-ok : goal.returns-in-Ok-drain-clause-ok
returns-in-Ok-drain-clause-ok c =
    subst (λ (p : Program). IsCompletion c.args.schedule.now p) (sym c.finish.ensures.value)
    (completed c.args.schedule.now c.in-Ok.walk c.drain.new.walk c.in-Ok.ensures.ok c.keeps.ensures c.in-Ok-drain.ensures.ok c.finish.ensures.kept)

pub returns-in-Err-drain-clause-err : goal.returns-in-Err-drain-clause-err
returns-in-Err-drain-clause-err c = stuck c.args.schedule.now c.in-Ok.walk c.in-Err-drain.fault c.in-Ok.ensures.ok c.keeps.ensures c.in-Err-drain.ensures.err
