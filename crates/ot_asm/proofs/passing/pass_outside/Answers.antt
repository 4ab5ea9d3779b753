use Rattle.std.proofs.Common.{◌∙◌, subst, sym}
use Rattle.ot_asm.specs.Passed.{PassesOver}
use Rattle.ot_asm.specs.declared.place.Place.{Place}
use Rattle.ot_asm.specs.declared.place.Place.TheVariants.{Apart}
use Rattle.ot_asm.proofs.Runs.{outside_passed, passed_on}
use Rattle.ot_asm.proofs.passing.pass_outside.Goals as goal

pub returns-in-Apart : goal.returns-in-Apart
returns-in-Apart c =
    let text = c.args.text.now in
    let rest = c.cut_before.result.1.now in
    let passed = outside_passed c.args.place text c.cut_before.result.0.now rest c.requires c.cut_before.ensures.whole c.cut_before.ensures.neither in
    passed_on c.args.place Apart c.pass_client.result.0 text rest c.pass_client.result.1.now
    (subst (λ (q : Place). PassesOver c.args.place text q rest) (sym c.last_place.ensures ∙ c.in-Apart.is) passed) c.pass_client.ensures

pub returns-in_default : goal.returns-in_default
returns-in_default c =
    rw c.last_place.ensures (outside_passed c.args.place c.args.text.now c.cut_before.result.0.now c.cut_before.result.1.now c.requires c.cut_before.ensures.whole c.cut_before.ensures.neither)
