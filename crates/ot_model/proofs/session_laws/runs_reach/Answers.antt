use Rattle.ot_model.proofs.session_laws.runs_reach.Goals as goal
use Rattle.ot_model.proofs.Runs.{reaches}

pub returns : goal.returns
returns c = reaches
