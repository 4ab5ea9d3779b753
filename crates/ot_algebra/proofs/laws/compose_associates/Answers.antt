use Rattle.ot_operation.proofs.LengthLaws.{compose_associates}
use Rattle.ot_algebra.proofs.laws.compose_associates.Goals as goal

pub returns : goal.returns
returns g c = compose_associates
