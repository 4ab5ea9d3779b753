use Rattle.ot_model.specs.declared.trace.Placed.{Placed}
use Rattle.ot_judge.proofs.Grown.{onto-more}
use Rattle.ot_judge.proofs.TagLemmas.{no_tag}
use Rattle.ot_judge.proofs.trace.push_tags.Goals as goal

pub loop-p-preserved : goal.loop-p-preserved
loop-p-preserved c =
    onto-more (λ (p : Placed). p.tag) _ _ _ c.args.inserted.now c.loop-p.p-index (record { tag = no_tag; place = 0 }) c.loop-p-test.true c.loop-p.invariant c.in_ok-push.ensures.items
