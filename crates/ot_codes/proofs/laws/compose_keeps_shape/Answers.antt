use Rattle.ot_codes.specs.Shape.{blank}
use Rattle.ot_codes.proofs.Mapped.{compose-mapped}
use Rattle.ot_codes.proofs.laws.compose_keeps_shape.Goals as goal

pub returns : goal.returns
returns g c = λ a b. compose-mapped blank a b
