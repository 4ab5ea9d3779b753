use Rattle.std.proofs.Common.{◌+◌, ◌-◌, ◌∙◌, ap}
use Rattle.std.specs.Int.{w32}
use Rattle.std.proofs.lemmas.Result.{err_from_is_err_and}
use Rattle.ot_image.specs.declared.refusal.Place.TheVariants as place
use Rattle.ot_image.specs.Fields.{Named, characters, first_refusal, is_scalar}
use Rattle.ot_image.specs.Reads.{seen}
use Rattle.ot_image.proofs.FieldSteps.{characters_done, characters_more, field_err, field_ok}
use Rattle.ot_image.proofs.named_operations.characters_of.Goals as goal

pub loop-k-preserved : goal.loop-k-preserved
loop-k-preserved c = λ after.
    c.loop-k.invariant after
    ∙ ap (λ (fields : Named). first_refusal fields (seen c.loop-k.rest)) (characters_more c.args.text c.args.count c.loop-k.k after c.loop-k-test.true)
    ∙ field_ok (place.Character c.args.text c.loop-k.k) w32 is_scalar (λ n. characters c.args.text (c.loop-k.k + 1) (c.args.count - (c.loop-k.k + 1)) after) (seen c.loop-k.rest) _ _ c.in_ok-rest.ensures

pub returns-in_err-rest : goal.returns-in_err-rest
returns-in_err-rest c =
    let p = err_from_is_err_and c.from_residual.result c.from_residual.ensures.1 in
    rw (p.1, p.2) (λ after.
    c.loop-k.invariant after
    ∙ ap (λ (fields : Named). first_refusal fields (seen c.loop-k.rest)) (characters_more c.args.text c.args.count c.loop-k.k after c.loop-k-test.true)
    ∙ field_err (place.Character c.args.text c.loop-k.k) w32 is_scalar (λ n. characters c.args.text (c.loop-k.k + 1) (c.args.count - (c.loop-k.k + 1)) after) (seen c.loop-k.rest) _ c.in_err-rest.ensures)

pub returns : goal.returns
returns c = λ after.
    c.loop-k.invariant after ∙ ap (λ (fields : Named). first_refusal fields (seen c.loop-k.rest)) (characters_done c.args.text c.args.count c.loop-k.k after c.loop-k-test.false)
