use Rattle.std.proofs.Common.{◌∙◌, ◌==◌, ap}
use Rattle.std.specs.Prelude.{if◌then◌else◌}
use Rattle.std.specs.Int.{w16}
use Rattle.std.proofs.lemmas.Result.{err_from_is_err_and}
use Rattle.ot_image.specs.declared.refusal.Place.TheVariants as place
use Rattle.ot_image.specs.declared.spot.Spot.{Spot}
use Rattle.ot_image.specs.Fields.{Named, client_objection, first_refusal, operands, operation}
use Rattle.ot_image.specs.Reads.{seen}
use Rattle.ot_image.proofs.FieldSteps.{field_err, field_ok, of_another, of_edit, operands_field, passes_on}
use Rattle.ot_image.proofs.whole.operands_of.Goals as goal

pub returns-in_err-after : goal.returns-in_err-after
returns-in_err-after c =
    let p = err_from_is_err_and c.from_residual.result c.from_residual.ensures.1 in
    rw (p.1, p.2) (λ after.
    ap (λ (fields : Named). first_refusal fields (seen c.args.spot)) (operands_field c.args.clients c.args.instr c.args.code c.if-code-eq6.false after)
    ∙ field_err (place.Client c.args.instr) w16 (client_objection c.args.clients) (λ client. if c.args.code == 1 then operation c.args.instr after else after) (seen c.args.spot) _ c.in_err-after.ensures)

pub returns-then-code-eq1 : goal.returns-then-code-eq1
returns-then-code-eq1 c =
    passes_on (λ (t : Spot). seen t) (operands c.args.clients c.args.instr c.args.code) (operation c.args.instr) (seen c.args.spot) (seen c.in_ok-after.field-0.1) c.operation_of.result
    (λ after.
    ap (λ (fields : Named). first_refusal fields (seen c.args.spot)) (operands_field c.args.clients c.args.instr c.args.code c.if-code-eq6.false after)
    ∙ field_ok (place.Client c.args.instr) w16 (client_objection c.args.clients) (λ client. if c.args.code == 1 then operation c.args.instr after else after) (seen c.args.spot) _ _ c.in_ok-after.ensures
    ∙ ap (λ (fields : Named). first_refusal fields (seen c.in_ok-after.field-0.1)) (of_edit c.args.instr c.args.code c.if-code-eq1.true after))
    c.operation_of.ensures

pub returns : goal.returns
returns c = λ after.
    ap (λ (fields : Named). first_refusal fields (seen c.args.spot)) (operands_field c.args.clients c.args.instr c.args.code c.if-code-eq6.false after)
    ∙ field_ok (place.Client c.args.instr) w16 (client_objection c.args.clients) (λ client. if c.args.code == 1 then operation c.args.instr after else after) (seen c.args.spot) _ _ c.in_ok-after.ensures
    ∙ ap (λ (fields : Named). first_refusal fields (seen c.in_ok-after.field-0.1)) (of_another c.args.instr c.args.code c.if-code-eq1.false after)
