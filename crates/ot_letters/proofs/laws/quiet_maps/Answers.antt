use Rattle.ot_letters.proofs.laws.quiet_maps.Goals as goal
use Rattle.ot_letters.proofs.Runs.{quiet-mapped}

pub returns : goal.returns
returns c = quiet-mapped
