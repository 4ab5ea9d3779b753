use Rattle.ot_every.proofs.laws.complete.Goals as goal
use Rattle.ot_every.proofs.Whole.{complete}

pub returns : goal.returns
returns c = complete
