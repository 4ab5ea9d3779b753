use Rattle.ot_letters.proofs.laws.steps_are_alike.Goals as goal
use Rattle.ot_letters.proofs.Alike.{steps_are_alike}

pub returns : goal.returns
returns c = steps_are_alike
