use Rattle.ot_every.proofs.laws.distinct.Goals as goal
use Rattle.ot_every.proofs.Whole.{distinct}

pub returns : goal.returns
returns c = distinct
