use Rattle.ot_model.proofs.ShownCounts.{same_multiset}
use Rattle.ot_model.proofs.order_laws.same_multiset.Goals as goal

pub returns : goal.returns
returns c = same_multiset
