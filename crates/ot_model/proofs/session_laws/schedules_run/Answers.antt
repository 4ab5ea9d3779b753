use Rattle.ot_model.proofs.Traced.{runnable}
use Rattle.ot_model.proofs.session_laws.schedules_run.Goals as goal

pub returns : goal.returns
returns c = runnable
