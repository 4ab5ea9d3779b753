use Rattle.ot_steps.proofs.Running.{fold_is_run}
use Rattle.ot_steps.proofs.laws.fold_is_run.Goals as goal

pub returns : goal.returns
returns c = fold_is_run
