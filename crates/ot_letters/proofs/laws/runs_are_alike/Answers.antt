use Rattle.ot_letters.proofs.laws.runs_are_alike.Goals as goal
use Rattle.ot_letters.proofs.Alike.{runs_are_alike}

pub returns : goal.returns
returns c = runs_are_alike
