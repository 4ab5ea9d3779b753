use Rattle.ot_model.proofs.session_laws.may_deliver.Goals as goal
use Rattle.ot_model.proofs.Fitting.{deliverable}

pub returns : goal.returns
returns c = deliverable
