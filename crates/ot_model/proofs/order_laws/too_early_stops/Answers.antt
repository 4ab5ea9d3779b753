use Rattle.ot_model.proofs.order_laws.too_early_stops.Goals as goal
use Rattle.ot_model.proofs.Reordering.{too_early_stops}

pub returns : goal.returns
returns c = too_early_stops
