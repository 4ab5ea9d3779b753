use Rattle.std.proofs.Common.{ap, arith, refl}
use Rattle.std.specs.Prelude.{unwrap_or}
use Rattle.ot_text.proofs.InPlace.{passed_deletion}
use Rattle.ot_text.proofs.in_place.Left.delete.Goals as goal

pub returns-clause-passed : goal.returns-clause-passed
returns-clause-passed g c =
    passed_deletion c.args.self.now.codes c.pass.new.self c.args.self.now.text.now c.args.self.now.text.now c.min-gone.result
    (omega (arith, c.unwrap_or.ensures, ap (λ o. unwrap_or o 0) c.deletion.ensures)) c.pass.ensures refl
