use Rattle.ot_model.proofs.part_laws.runs_go_on.Goals as goal
use Rattle.ot_model.proofs.Sessions.{runs_on}

pub returns : goal.returns
returns c = runs_on
