use Rattle.ot_codes.proofs.Filled.{first_fills, second_fills}
use Rattle.ot_codes.proofs.laws.transform_fills.Goals as goal

pub returns : goal.returns
returns g c = λ a b first second same. (first_fills a b first second same, second_fills a b first second same)
