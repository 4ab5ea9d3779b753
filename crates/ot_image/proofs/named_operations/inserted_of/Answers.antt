use Rattle.std.proofs.Common.{ap}
use Rattle.ot_image.specs.declared.refusal.Text.TheVariants.{Insertion}
use Rattle.ot_image.specs.declared.spot.Spot.{Spot}
use Rattle.ot_image.specs.Fields.{Named, characters, first_refusal, inserted}
use Rattle.ot_image.specs.Reads.{seen}
use Rattle.ot_image.proofs.FieldSteps.{inserted_nothing, inserted_text, passes_on}
use Rattle.ot_image.proofs.named_operations.inserted_of.Goals as goal

pub returns-then-code-eq17 : goal.returns-then-code-eq17
returns-then-code-eq17 c =
    passes_on (λ (t : Spot). seen t) (inserted c.args.instr c.args.k c.args.code c.args.count) (characters (Insertion c.args.instr c.args.k) 0 c.args.count) (seen c.args.spot) (seen c.args.spot) c.characters_of.result
    (λ after. ap (λ (fields : Named). first_refusal fields (seen c.args.spot)) (inserted_text c.args.instr c.args.k c.args.code c.args.count c.if-code-eq17.true after))
    c.characters_of.ensures

pub returns : goal.returns
returns c = λ after. ap (λ (fields : Named). first_refusal fields (seen c.args.spot)) (inserted_nothing c.args.instr c.args.k c.args.code c.args.count c.if-code-eq17.false after)
