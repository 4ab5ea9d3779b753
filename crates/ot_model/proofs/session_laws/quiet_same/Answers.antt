use Rattle.ot_model.proofs.session_laws.quiet_same.Goals as goal
use Rattle.ot_model.proofs.Steps.{quiet_same}

pub returns : goal.returns
returns c = quiet_same
