use Rattle.std.proofs.Common.{◌+◌, ◌∙◌, sym, arith}
use Rattle.ot_workers.proofs.Round.{onward}
use Rattle.ot_workers.proofs.choosing.choose.Goals as goal

pub loop-i-preserved : goal.loop-i-preserved
loop-i-preserved c =
    onward c.args.seats.now (c.args.worker + c.args.turn + c.loop-i.i) _ _ _ (omega arith) (omega arith) (sym c.way_at.ensures ∙ c.in_default.is) ∙ c.loop-i.invariant
