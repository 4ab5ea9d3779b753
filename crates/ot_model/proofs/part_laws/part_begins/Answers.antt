use Rattle.ot_model.proofs.part_laws.part_begins.Goals as goal
use Rattle.ot_model.proofs.Sessions.{part_begins}

pub returns : goal.returns
returns c = part_begins
