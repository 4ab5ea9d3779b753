use Rattle.ot_check.proofs.Placing.{placed_run-push}
use Rattle.ot_check.proofs.event.push_placed.Goals as goal

pub loop-i-preserved : goal.loop-i-preserved
loop-i-preserved c = placed_run-push _ _ _ c.args.origin c.args.first c.args.place c.loop-i.i c.loop-i.invariant c.in_ok-push.ensures.items
