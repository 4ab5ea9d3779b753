use Rattle.ot_letters.proofs.laws.invert_maps.Goals as goal
use Rattle.ot_letters.proofs.Operations.{invert-mapped}

pub returns : goal.returns
returns g c = invert-mapped
