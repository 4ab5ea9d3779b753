use Rattle.ot_letters.proofs.laws.openings_are_alike.Goals as goal
use Rattle.ot_letters.proofs.Alike.{openings_are_alike}

pub returns : goal.returns
returns c = openings_are_alike
