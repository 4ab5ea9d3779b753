use Rattle.ot_model.proofs.Readers.{one_has_both}
use Rattle.ot_model.proofs.list_laws.one_has_both.Goals as goal

pub returns : goal.returns
returns c = one_has_both
