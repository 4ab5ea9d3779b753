use Rattle.std.proofs.Common.{◌∙◌, ap}
use Rattle.std.specs.Int.{w16}
use Rattle.std.proofs.lemmas.Result.{err_from_is_err_and}
use Rattle.ot_image.specs.declared.refusal.Place.TheVariants as place
use Rattle.ot_image.specs.Fields.{Named, first_refusal, present_objection}
use Rattle.ot_image.specs.Reads.{seen}
use Rattle.ot_image.proofs.FieldSteps.{field_err, field_ok, present_field}
use Rattle.ot_image.proofs.whole.present_if.Goals as goal

pub returns-in_err-after : goal.returns-in_err-after
returns-in_err-after c =
    let p = err_from_is_err_and c.from_residual.result c.from_residual.ensures.1 in
    rw (p.1, p.2) (λ after.
    ap (λ (fields : Named). first_refusal fields (seen c.args.spot)) (present_field c.args.version c.args.clients c.if-version-eq1.false after)
    ∙ field_err place.Present w16 (present_objection c.args.clients) (λ n. after) (seen c.args.spot) _ c.in_err-after.ensures)

pub returns : goal.returns
returns c = λ after.
    ap (λ (fields : Named). first_refusal fields (seen c.args.spot)) (present_field c.args.version c.args.clients c.if-version-eq1.false after)
    ∙ field_ok place.Present w16 (present_objection c.args.clients) (λ n. after) (seen c.args.spot) _ _ c.in_ok-after.ensures
