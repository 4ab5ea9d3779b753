use Rattle.ot_model.proofs.part_laws.sessions_go_on.Goals as goal
use Rattle.ot_model.proofs.Sessions.{goes_on}

pub returns : goal.returns
returns c = goes_on
