use Rattle.std.proofs.Common.{arith, refl, subst, Vec, Global, List}
use Rattle.std.specs.Prelude.{All}
use Rattle.std.proofs.lemmas.List.{take_all}
use Rattle.ot_isa.specs.declared.elements.Tag.{Tag}
use Rattle.ot_judge.specs.Ranks.{Climbs}
use Rattle.ot_judge.proofs.Climbing.{climbing-none}
use Rattle.ot_judge.proofs.Grown.{rows-more}
use Rattle.ot_judge.proofs.order.all_climb.Goals as goal

pub loop-v-preserved : goal.loop-v-preserved
loop-v-preserved c =
    rows-more (λ (xs : List Tag). Climbs c.args.places.now xs) c.args.lists.now c.loop-v.v-index c.v-item.result _ c.loop-v-test.true c.v-item.is c.as_slice.ensures.value (c.if-not-climbs.ensures refl) c.loop-v.invariant

pub returns : goal.returns
returns c = λ h. climbing-none c.args.places.now c.args.lists.now (subst (λ (xs : List (Vec Tag Global)). All (λ (w : Vec Tag Global). Climbs c.args.places.now w.items) xs) (take_all c.loop-v.v-index c.args.lists.now (omega arith)) c.loop-v.invariant)
