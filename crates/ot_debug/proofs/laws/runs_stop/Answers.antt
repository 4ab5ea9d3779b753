use Rattle.ot_debug.proofs.Ever.{runs_stop}
use Rattle.ot_debug.proofs.laws.runs_stop.Goals as goal

pub returns : goal.returns
returns c = runs_stop
