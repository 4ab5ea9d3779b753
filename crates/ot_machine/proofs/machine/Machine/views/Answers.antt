use Rattle.std.proofs.Common.{◌∙◌}
use Rattle.ot_machine.proofs.Reading.{views_next}
use Rattle.ot_machine.proofs.machine.Machine.views.Goals as goal

pub loop-client-preserved : goal.loop-client-preserved
loop-client-preserved c =
    c.in_ok-push.ensures.items ∙ views_next c.args.self.now.clients c.loop-client.client c.loop-client.views.items c.in_ok-view.view c.loop-client.invariant c.in_ok-view.ensures
