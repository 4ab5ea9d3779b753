use Rattle.ot_debug.proofs.Ever.{steps_stop}
use Rattle.ot_debug.proofs.laws.steps_stop.Goals as goal

pub returns : goal.returns
returns c = steps_stop
