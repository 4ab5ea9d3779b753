use Rattle.std.proofs.Common.{sym}
use Rattle.ot_every.proofs.Settling.{all_next, not_all, settled_in}
use Rattle.ot_every.proofs.settled.is_settled.Goals as goal

pub returns-then-not-is_client_settled : goal.returns-then-not-is_client_settled
returns-then-not-is_client_settled c =
    sym (not_all (settled_in c.args.machine.now) c.args.machine.now.clients c.loop-client.client c.is_client_settled.result c.is_client_settled.ensures c.if-not-is_client_settled.true)

pub loop-client-preserved : goal.loop-client-preserved
loop-client-preserved c =
    all_next (settled_in c.args.machine.now) c.args.machine.now.clients c.loop-client.client c.is_client_settled.result c.loop-client.invariant c.is_client_settled.ensures c.if-not-is_client_settled.false
