use Rattle.ot_operation.proofs.SidesLaws.{transform_keeps_sides}
use Rattle.ot_algebra.proofs.laws.transform_keeps_sides.Goals as goal

pub returns : goal.returns
returns g c = transform_keeps_sides
