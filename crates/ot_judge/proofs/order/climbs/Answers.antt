use Rattle.std.proofs.Common.{◌≡◌, ℕ, length, arith, subst}
use Rattle.ot_judge.proofs.Climbing.{ClimbsTo, climbs-all, climbs-more, climbs-none}
use Rattle.ot_judge.proofs.TagLemmas.{no_tag}
use Rattle.ot_judge.proofs.order.climbs.Goals as goal

pub loop-i-init : goal.loop-i-init
loop-i-init c = climbs-none c.args.places.now c.args.xs.now

pub loop-i-preserved : goal.loop-i-preserved
loop-i-preserved c = climbs-more c.args.places.now c.args.xs.now c.loop-i.i c.loop-i.last c.place_in-place.result no_tag c.loop-i-test.true c.place_in-place.ensures c.if-place-last.false c.loop-i.invariant

pub returns : goal.returns
returns c = λ h.
    let all : c.loop-i.i ≡ length c.args.xs.now = omega arith in
    climbs-all c.args.places.now c.args.xs.now c.loop-i.last (subst (λ (n : ℕ). ClimbsTo c.args.places.now c.args.xs.now n c.loop-i.last) all c.loop-i.invariant)
