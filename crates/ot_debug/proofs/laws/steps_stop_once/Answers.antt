use Rattle.ot_debug.proofs.Once.{step_once}
use Rattle.ot_debug.proofs.laws.steps_stop_once.Goals as goal

pub returns : goal.returns
returns c = step_once
