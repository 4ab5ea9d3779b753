use Rattle.ot_letters.proofs.laws.step_maps.Goals as goal
use Rattle.ot_letters.proofs.Steps.{step-mapped}

pub returns : goal.returns
returns c = step-mapped
