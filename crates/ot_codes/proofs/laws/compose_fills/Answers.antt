use Rattle.ot_codes.proofs.CutLaws.{compose_fills}
use Rattle.ot_codes.proofs.laws.compose_fills.Goals as goal

pub returns : goal.returns
returns g c = λ a b cuts given. compose_fills a b cuts given
