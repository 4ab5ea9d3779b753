use Rattle.std.proofs.Common.{ℕ, Global, List, Vec, arith, below_more, map, refl, subst}
use Rattle.std.proofs.lemmas.List.{length-map}
use Rattle.ot_judge.specs.Replicas.{IsSettled}
use Rattle.ot_judge.proofs.Settled.{settled-none}
use Rattle.ot_judge.proofs.search.suspected.Goals as goal

pub loop-r-preserved : goal.loop-r-preserved
loop-r-preserved c =
    let lists = map (λ (v : Vec ℕ Global). v.items) c.args.lists.now in
    let here = subst (λ (sizes : List ℕ). IsSettled c.args.actors.now sizes lists c.loop-r.r) c.as_slice.ensures.value (c.in_ok-found.ensures c.in_default.is) in
    below_more (IsSettled c.args.actors.now c.in_ok-sizes.sizes.items lists) c.loop-r.r c.loop-r.invariant here

pub returns : goal.returns
returns c = λ _.
    let lists = map (λ (v : Vec ℕ Global). v.items) c.args.lists.now in
    let long = length-map c.args.lists.now (λ (v : Vec ℕ Global). v.items) in
    settled-none c.args.actors.now c.in_ok-sizes.sizes.items lists c.args.replicas (λ r lt. c.loop-r.invariant r (omega (arith, lt))) (λ e lt. c.if-not-all_act.ensures refl e (omega (arith, lt, long)))
