use Rattle.ot_model.proofs.Ring.{not_one_order}
use Rattle.ot_model.proofs.list_laws.not_one_order.Goals as goal

pub returns : goal.returns
returns c = not_one_order
