use Rattle.ot_codes.specs.Shape.{blank}
use Rattle.ot_codes.proofs.Mapped.{first_after-mapped, second_after-mapped}
use Rattle.ot_codes.proofs.laws.transform_keeps_shape.Goals as goal

pub returns : goal.returns
returns g c = λ a b. (first_after-mapped blank a b, second_after-mapped blank a b)
