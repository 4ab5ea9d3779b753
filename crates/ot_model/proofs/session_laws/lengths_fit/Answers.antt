use Rattle.ot_model.proofs.session_laws.lengths_fit.Goals as goal
use Rattle.ot_model.proofs.Fitting.{lengths_fit}

pub returns : goal.returns
returns c = lengths_fit
