use Rattle.ot_codes.proofs.CutLaws.{cuts_give_text}
use Rattle.ot_codes.proofs.laws.cuts_give_text.Goals as goal

pub returns : goal.returns
returns g c = λ a b cuts given. cuts_give_text a b cuts given
