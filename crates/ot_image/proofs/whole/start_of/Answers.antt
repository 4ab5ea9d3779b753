use Rattle.std.specs.Int.{w32}
use Rattle.std.proofs.lemmas.Result.{err_from_is_err_and}
use Rattle.ot_image.specs.declared.refusal.Place.TheVariants as place
use Rattle.ot_image.specs.declared.refusal.Text.TheVariants.{Start}
use Rattle.ot_image.specs.declared.spot.Spot.{Spot}
use Rattle.ot_image.specs.Fields.{characters, start, start_objection}
use Rattle.ot_image.specs.Reads.{seen}
use Rattle.ot_image.proofs.FieldSteps.{field_err, field_ok, passes_on}
use Rattle.ot_image.proofs.whole.start_of.Goals as goal

pub returns-in_err-count : goal.returns-in_err-count
returns-in_err-count c =
    let p = err_from_is_err_and c.from_residual.result c.from_residual.ensures.1 in
    rw (p.1, p.2) (λ after. field_err place.StartCount w32 start_objection (λ n. characters Start 0 n after) (seen c.args.spot) _ c.in_err-count.ensures)

pub returns : goal.returns
returns c =
    passes_on (λ (t : Spot). seen t) start (characters Start 0 c.in_ok-count.count) (seen c.args.spot) (seen c.in_ok-count.after) c.characters_of.result
    (λ after. field_ok place.StartCount w32 start_objection (λ n. characters Start 0 n after) (seen c.args.spot) c.in_ok-count.count (seen c.in_ok-count.after) c.in_ok-count.ensures)
    c.characters_of.ensures
