use Rattle.ot_model.proofs.order_laws.any_order.Goals as goal
use Rattle.ot_model.proofs.Reordering.{any_order}

pub returns : goal.returns
returns c = any_order
