use Rattle.std.proofs.Common.{◌∙◌, ap, refl}
use Rattle.std.specs.Prelude.{unwrap_or}
use Rattle.ot_text.proofs.InPlace.{passed_retain}
use Rattle.ot_text.proofs.in_place.Left.retain.Goals as goal

pub returns : goal.returns
returns g c =
    passed_retain c.args.self.now.codes c.pass.new.self c.args.self.now.text.now c.args.self.now.text.now c.unwrap_or-kept.result
    (c.unwrap_or-kept.ensures ∙ ap (λ o. unwrap_or o 0) c.retain.ensures) c.pass.ensures refl
