use Rattle.ot_model.proofs.Readers.{lists_agree}
use Rattle.ot_model.proofs.list_laws.lists_agree.Goals as goal

pub returns : goal.returns
returns c = lists_agree
