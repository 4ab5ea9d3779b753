use Rattle.ot_every.proofs.laws.valid.Goals as goal
use Rattle.ot_every.proofs.Valid.{valid}

pub returns : goal.returns
returns c = valid
