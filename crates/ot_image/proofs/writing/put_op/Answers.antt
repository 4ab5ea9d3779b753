use Rattle.std.proofs.Common.{◌∙◌, ◌++◌, ap}
use Rattle.std.specs.Int.{w32, to_be_bytes}
use Rattle.ot_image.proofs.Written.{none_put, part_fits, one_put, all_put}
use Rattle.ot_image.proofs.writing.put_op.Goals as goal

pub loop-part-init : goal.loop-part-init
loop-part-init c = rw c.into_iter-part-iterator.ensures.into_iter_gives (none_put _ _ _ c.components-part-items.ensures.spells c.components-part-items.ensures.form)

pub put_component-requires : goal.put_component-requires
put_component-requires c = part_fits c.in-Some.ensures.steps c.loop-part.invariant c.components-part-items.ensures.fits

pub loop-part-preserved : goal.loop-part-preserved
loop-part-preserved c = one_put c.in-Some.ensures.steps c.loop-part.invariant _ c.in_ok-put_component.ensures

pub returns : goal.returns
returns c =
    all_put _ _ _ _ _ c.in-None.ensures.steps.0 c.loop-part.invariant
    (c.in_ok-put_word.ensures ∙ ap (λ n. c.args.out.now.items ++ to_be_bytes w32 n) c.component_count.ensures.value)
