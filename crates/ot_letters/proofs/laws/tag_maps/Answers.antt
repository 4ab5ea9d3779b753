use Rattle.ot_letters.proofs.laws.tag_maps.Goals as goal
use Rattle.ot_letters.proofs.Steps.{tag-mapped}

pub returns : goal.returns
returns c = tag-mapped
