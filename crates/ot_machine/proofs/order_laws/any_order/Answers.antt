use Rattle.ot_machine.proofs.Orders.{ends, not_both}
use Rattle.ot_machine.proofs.order_laws.any_order.Goals as goal

pub returns-clause-ends : goal.returns-clause-ends
returns-clause-ends c = ends c.args.first.now c.args.second.now c.clients.ensures.limits

pub returns-clause-not_both : goal.returns-clause-not_both
returns-clause-not_both c = not_both c.args.first.now c.args.second.now
