use Rattle.ot_letters.proofs.laws.alike_is_shape.Goals as goal
use Rattle.ot_letters.proofs.Alike.{alike_is_shape}

pub returns : goal.returns
returns c = alike_is_shape
