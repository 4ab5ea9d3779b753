use Rattle.ot_codes.proofs.Filled.{filled-shape}
use Rattle.ot_codes.proofs.laws.filled_gives_back.Goals as goal

pub returns : goal.returns
returns g c = λ op. filled-shape op
