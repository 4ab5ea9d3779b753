use Rattle.ot_operation.proofs.LengthLaws.{transform_is_merge}
use Rattle.ot_algebra.proofs.laws.transform_is_merge.Goals as goal

pub returns : goal.returns
returns g c = transform_is_merge
