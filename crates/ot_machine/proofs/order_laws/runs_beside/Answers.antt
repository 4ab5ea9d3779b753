use Rattle.ot_machine.proofs.Orders.{beside}
use Rattle.ot_machine.proofs.order_laws.runs_beside.Goals as goal

pub returns : goal.returns
returns c = beside c.args.first.now c.args.second.now c.args.one.now c.args.other.now c.clients.ensures.limits
