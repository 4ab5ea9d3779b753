use Rattle.ot_model.proofs.Lying.{events_see}
use Rattle.ot_model.proofs.list_laws.events_see.Goals as goal

pub returns : goal.returns
returns c = events_see
