use Rattle.ot_letters.proofs.laws.downlink_maps.Goals as goal
use Rattle.ot_letters.proofs.Steps.{downlink-mapped}

pub returns : goal.returns
returns c = downlink-mapped
