use Rattle.std.specs.Int.{w32}
use Rattle.std.proofs.lemmas.Result.{err_from_is_err_and}
use Rattle.ot_image.specs.declared.refusal.Place.TheVariants as place
use Rattle.ot_image.specs.declared.spot.Spot.{Spot}
use Rattle.ot_image.specs.Fields.{any, components, no_shape, operation}
use Rattle.ot_image.specs.Reads.{seen}
use Rattle.ot_image.proofs.FieldSteps.{any_err, any_ok, field_err, field_ok, passes_on}
use Rattle.ot_image.proofs.named_operations.operation_of.Goals as goal

pub returns-in_err-count : goal.returns-in_err-count
returns-in_err-count c =
    let p = err_from_is_err_and c.from_residual.result c.from_residual.ensures.1 in
    rw (p.1, p.2) (λ after.
    field_err (place.ComponentCount c.args.instr) w32 any (λ n. components c.args.instr 0 n no_shape after) (seen c.args.spot) _ (any_err (place.ComponentCount c.args.instr) w32 (seen c.args.spot) _ c.in_err-count.ensures))

pub returns : goal.returns
returns c =
    passes_on (λ (t : Spot). seen t) (operation c.args.instr) (components c.args.instr 0 c.in_ok-count.count no_shape) (seen c.args.spot) (seen c.in_ok-count.after) c.components_of.result
    (λ after. field_ok (place.ComponentCount c.args.instr) w32 any (λ n. components c.args.instr 0 n no_shape after) (seen c.args.spot) c.in_ok-count.count (seen c.in_ok-count.after)
    (any_ok (place.ComponentCount c.args.instr) w32 (seen c.args.spot) c.in_ok-count.count (seen c.in_ok-count.after) c.in_ok-count.ensures))
    c.components_of.ensures
