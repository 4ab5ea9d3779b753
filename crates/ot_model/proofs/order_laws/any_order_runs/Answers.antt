use Rattle.ot_model.proofs.order_laws.any_order_runs.Goals as goal
use Rattle.ot_model.proofs.Reordering.{any_order_runs}

pub returns : goal.returns
returns c = any_order_runs
