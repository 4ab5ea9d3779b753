use Rattle.ot_letters.proofs.laws.instrs_map.Goals as goal
use Rattle.ot_letters.proofs.Runs.{instrs-mapped}

pub returns : goal.returns
returns c = instrs-mapped
