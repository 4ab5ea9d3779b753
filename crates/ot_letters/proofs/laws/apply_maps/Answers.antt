use Rattle.ot_letters.proofs.laws.apply_maps.Goals as goal
use Rattle.ot_letters.proofs.Operations.{apply-mapped}

pub returns : goal.returns
returns g c = apply-mapped
