use Rattle.ot_model.proofs.Lying.{counts_tell}
use Rattle.ot_model.proofs.list_laws.counts_tell.Goals as goal

pub returns : goal.returns
returns c = counts_tell
