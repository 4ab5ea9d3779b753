use Rattle.std.proofs.Common.{◌+◌, ◌-◌, ◌∙◌, ap}
use Rattle.std.proofs.lemmas.Result.{err_from_is_err_and}
use Rattle.ot_image.specs.Fields.{Named, components, first_refusal}
use Rattle.ot_image.specs.Reads.{seen}
use Rattle.ot_image.proofs.FieldSteps.{components_done, components_more}
use Rattle.ot_image.proofs.named_operations.components_of.Goals as goal

pub loop-k-preserved : goal.loop-k-preserved
loop-k-preserved c = record {
  read = λ after.
      c.loop-k.invariant.read after
      ∙ ap (λ (fields : Named). first_refusal fields (seen c.loop-k.rest)) (components_more c.args.instr c.args.count c.loop-k.k c.loop-k.shape after c.loop-k-test.true)
      ∙ c.in_ok-more.ensures.read (λ more. components c.args.instr (c.loop-k.k + 1) (c.args.count - (c.loop-k.k + 1)) more after);
  within = c.in_ok-more.ensures.within;
}

pub returns-in_err-more : goal.returns-in_err-more
returns-in_err-more c =
    let p = err_from_is_err_and c.from_residual.result c.from_residual.ensures.1 in
    rw (p.1, p.2) (λ after.
    c.loop-k.invariant.read after
    ∙ ap (λ (fields : Named). first_refusal fields (seen c.loop-k.rest)) (components_more c.args.instr c.args.count c.loop-k.k c.loop-k.shape after c.loop-k-test.true)
    ∙ c.in_err-more.ensures.read (λ more. components c.args.instr (c.loop-k.k + 1) (c.args.count - (c.loop-k.k + 1)) more after))

pub returns : goal.returns
returns c = λ after.
    c.loop-k.invariant.read after ∙ ap (λ (fields : Named). first_refusal fields (seen c.loop-k.rest)) (components_done c.args.instr c.args.count c.loop-k.k c.loop-k.shape after c.loop-k-test.false)
