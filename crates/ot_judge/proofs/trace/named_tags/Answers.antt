use Rattle.std.proofs.Common.{◌∙◌, ap, map, ◌++◌, List}
use Rattle.ot_model.specs.declared.trace.Placed.{Placed}
use Rattle.ot_judge.proofs.Views.{tags-more}
use Rattle.ot_judge.proofs.trace.named_tags.Goals as goal

pub loop-x-preserved : goal.loop-x-preserved
loop-x-preserved c =
    tags-more c.args.start.now c.loop-x.tags.items c.push_tags.new.tags.items c.args.events.now c.loop-x.x-index c.x-item.result c.loop-x-test.true c.x-item.is c.loop-x.invariant
    (c.in_ok-push_tags.ensures ∙ ap (λ (ps : List Placed). c.loop-x.tags.items ++ map (λ (p : Placed). p.tag) ps) c.as_slice.ensures.value)
