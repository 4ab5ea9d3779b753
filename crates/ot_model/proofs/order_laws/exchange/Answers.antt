use Rattle.ot_model.proofs.order_laws.exchange.Goals as goal
use Rattle.ot_model.proofs.Exchanging.{exchange}

pub returns : goal.returns
returns c = exchange
