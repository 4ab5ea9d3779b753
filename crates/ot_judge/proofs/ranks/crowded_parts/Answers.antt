use Rattle.std.proofs.Common.{◌∙◌, ap, Vec, Global}
use Rattle.std.specs.Prelude.{filter}
use Rattle.ot_isa.specs.declared.elements.Tag.{Tag}
use Rattle.ot_judge.specs.Ranks.{is_crowded}
use Rattle.ot_judge.proofs.Grown.{mapped-more}
use Rattle.ot_judge.proofs.ranks.crowded_parts.Goals as goal

pub loop-v-preserved : goal.loop-v-preserved
loop-v-preserved c =
    let kept = filter (is_crowded c.args.ranks.now c.args.crowded.now) in
    mapped-more (λ (w : Vec Tag Global). w.items) kept (λ (w : Vec Tag Global). w.items) _ _ c.args.lists.now c.loop-v.v-index c.in_ok-part.part c.v-item.result c.loop-v-test.true c.v-item.is c.in_ok-push.ensures.items (c.in_ok-part.ensures ∙ ap kept c.as_slice.ensures.value) c.loop-v.invariant
