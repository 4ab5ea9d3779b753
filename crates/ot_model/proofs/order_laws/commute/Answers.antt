use Rattle.ot_model.proofs.order_laws.commute.Goals as goal
use Rattle.ot_model.proofs.Exchanging.{commute}

pub returns : goal.returns
returns c = commute
