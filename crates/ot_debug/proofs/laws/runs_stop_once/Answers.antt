use Rattle.ot_debug.proofs.Once.{run_once}
use Rattle.ot_debug.proofs.laws.runs_stop_once.Goals as goal

pub returns : goal.returns
returns c = run_once
