use Rattle.ot_codes.proofs.Filled.{same_shape}
use Rattle.ot_codes.proofs.laws.same_shape.Goals as goal

pub returns : goal.returns
returns g c = λ a b shapes texts. same_shape a b shapes texts
