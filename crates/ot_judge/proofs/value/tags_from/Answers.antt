use Rattle.std.proofs.Common.{◌∙◌, sym}
use Rattle.ot_judge.specs.Reading.{tag_of}
use Rattle.ot_judge.proofs.Grown.{all-end, all-more, all-none, all-start}
use Rattle.ot_judge.proofs.value.tags_from.Goals as goal

pub loop-value-init : goal.loop-value-init
loop-value-init c = all-start c.new-found.result.items _ c.new-found.ensures.items

pub loop-value-preserved : goal.loop-value-preserved
loop-value-preserved c =
    all-more tag_of c.args.items.now c.loop-value.value-index c.value-item.result _ _ c.in-Some.tag _ c.loop-value-test.true c.value-item.is (sym c.tag_of.ensures ∙ c.in-Some.is) c.in_ok-push-in-Some.ensures.items c.loop-value.invariant

pub returns-in-None : goal.returns-in-None
returns-in-None c =
    all-none tag_of c.args.items.now c.loop-value.value-index c.value-item.result _ _ c.loop-value-test.true c.value-item.is (sym c.tag_of.ensures ∙ c.in-None.is) c.loop-value.invariant

pub returns : goal.returns
returns c = all-end tag_of c.args.items.now c.loop-value.value-index _ _ c.loop-value-test.false c.loop-value.invariant
