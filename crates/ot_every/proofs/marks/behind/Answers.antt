use Rattle.std.proofs.Common.{◌∙◌}
use Rattle.ot_every.specs.Listing.{is_behind}
use Rattle.ot_every.proofs.Settling.{behind_is, each_next}
use Rattle.ot_every.proofs.marks.behind.Goals as goal

pub loop-client-preserved : goal.loop-client-preserved
loop-client-preserved c =
    c.in_ok-push.ensures.items
    ∙ each_next (is_behind c.args.machine.now) c.args.machine.now.clients c.loop-client.client c.loop-client.all.items _ c.loop-client.invariant
    (behind_is c.args.machine.now c.loop-client.client c.revision.result c.server_revision-logged.result c.revision.ensures c.server_revision-logged.ensures)
