use Rattle.ot_model.proofs.part_laws.session_waits.Goals as goal
use Rattle.ot_model.proofs.Sessions.{session_waits}

pub returns : goal.returns
returns c = session_waits
