use Rattle.ot_letters.proofs.laws.quiet_is_alike.Goals as goal
use Rattle.ot_letters.proofs.Alike.{quiet_is_alike}

pub returns : goal.returns
returns c = quiet_is_alike
