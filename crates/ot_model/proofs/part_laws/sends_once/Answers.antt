use Rattle.ot_model.proofs.part_laws.sends_once.Goals as goal
use Rattle.ot_model.proofs.Sessions.{sends_once}

pub returns : goal.returns
returns c = sends_once
