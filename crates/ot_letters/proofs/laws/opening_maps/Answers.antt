use Rattle.ot_letters.proofs.laws.opening_maps.Goals as goal
use Rattle.ot_letters.proofs.Runs.{begin-mapped}

pub returns : goal.returns
returns c = begin-mapped
