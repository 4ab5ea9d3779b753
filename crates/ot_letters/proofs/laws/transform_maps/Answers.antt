use Rattle.ot_letters.proofs.laws.transform_maps.Goals as goal
use Rattle.ot_codes.proofs.Mapped.{first_after-mapped, second_after-mapped}
use Rattle.std.proofs.Common.{sym}

pub returns : goal.returns
returns g c = λ f a b. (sym (first_after-mapped f a b), sym (second_after-mapped f a b))
