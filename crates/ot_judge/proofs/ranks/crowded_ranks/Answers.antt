use Rattle.std.proofs.Common.{arith, subst, List, Vec, Global, ap, ◌∙◌}
use Rattle.std.specs.Prelude.{All}
use Rattle.std.proofs.lemmas.List.{take_all}
use Rattle.ot_isa.specs.declared.elements.Tag.{Tag}
use Rattle.ot_judge.specs.Ranks.{IsAccounted}
use Rattle.ot_judge.proofs.Filtered.{lists-accounted-more}
use Rattle.ot_judge.proofs.ranks.crowded_ranks.Goals as goal

pub loop-v-preserved : goal.loop-v-preserved
loop-v-preserved c =
    let is = c.as_slice.ensures.value ∙ ap (λ (v : Vec Tag Global). v.items) c.v-item.is in
    lists-accounted-more c.args.ranks.now c.args.owners.now c.loop-v.crowded c.add_crowded.new.crowded c.args.lists.now c.loop-v.v-index c.v-item.result c.loop-v-test.true c.in_ok-add_crowded.ensures.grows
    (subst (λ (xs : List Tag). IsAccounted c.args.ranks.now c.args.owners.now c.add_crowded.new.crowded xs) is c.in_ok-add_crowded.ensures.accounted) c.loop-v.invariant

pub returns : goal.returns
returns c = subst (λ (vs : List (Vec Tag Global)). All (λ (w : Vec Tag Global). IsAccounted c.args.ranks.now c.args.owners.now c.loop-v.crowded w.items) vs) (take_all c.loop-v.v-index c.args.lists.now (omega arith)) c.loop-v.invariant
