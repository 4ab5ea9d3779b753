use Rattle.ot_letters.proofs.laws.order_maps.Goals as goal
use Rattle.ot_letters.proofs.Runs.{orders-mapped}

pub returns : goal.returns
returns c = orders-mapped
