use Rattle.ot_model.proofs.session_laws.server_accepts.Goals as goal
use Rattle.ot_model.proofs.Fitting.{accepts}

pub returns : goal.returns
returns c = accepts
