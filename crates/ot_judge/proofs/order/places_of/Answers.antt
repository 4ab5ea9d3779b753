use Rattle.std.proofs.Common.{arith, length, ◌≡◌, subst, ℕ}
use Rattle.ot_judge.proofs.Rising.{IsIndexBelow, index-more, index-all}
use Rattle.ot_judge.proofs.order.places_of.Goals as goal

pub loop-i-preserved : goal.loop-i-preserved
loop-i-preserved c = index-more c.loop-i.places c.insert.new.self c.args.xs.now c.loop-i.i c.loop-i-test.true c.requires c.loop-i.invariant c.in_ok-insert.ensures.updates.0

pub returns : goal.returns
returns c =
    let all : c.loop-i.i ≡ length c.args.xs.now = omega arith in
    index-all c.loop-i.places c.args.xs.now (subst (λ (n : ℕ). IsIndexBelow c.loop-i.places c.args.xs.now n) all c.loop-i.invariant)
