use Rattle.ot_operation.proofs.KeptOrder.{apply_keeps_order}
use Rattle.ot_algebra.proofs.laws.apply_keeps_order.Goals as goal

pub returns : goal.returns
returns g c = apply_keeps_order
