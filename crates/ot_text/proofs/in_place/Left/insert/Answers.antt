use Rattle.std.proofs.Common.{◌∙◌, ap}
use Rattle.std.specs.Prelude.{unwrap_or}
use Rattle.ot_text.proofs.InPlace.{passed_insertion}
use Rattle.ot_text.proofs.in_place.Left.insert.Goals as goal

pub returns : goal.returns
returns g c =
    passed_insertion c.args.self.now.codes c.pass.new.self c.args.self.now.text.now c.split_at.result.1.now c.split_at.result.0.now c.unwrap_or-come.result
    (c.unwrap_or-come.ensures ∙ ap (λ o. unwrap_or o 0) c.insertion.ensures) c.pass.ensures c.split_at.ensures.front c.split_at.ensures.back
