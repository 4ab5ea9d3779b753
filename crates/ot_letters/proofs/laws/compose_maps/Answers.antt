use Rattle.ot_letters.proofs.laws.compose_maps.Goals as goal
use Rattle.ot_codes.proofs.Mapped.{compose-mapped}
use Rattle.std.proofs.Common.{sym}

pub returns : goal.returns
returns g c = λ f a b. sym (compose-mapped f a b)
