use Rattle.std.proofs.Common.{arith, length, ◌≡◌, subst, ℕ, sym}
use Rattle.ot_judge.proofs.Rising.{Rises, rises-skip, rises-more, rises-all}
use Rattle.ot_judge.proofs.order.first_fall.Goals as goal
use Rattle.ot_judge.proofs.order.first_fall.Goals.{in-Some+else-p-last, in_default}

pub loop-i-preserved : goal.loop-i-preserved
loop-i-preserved c =
    elim c.match-get.branch [
      | in-Some+else-p-last w ↦ rw w.last-is (rises-more c.args.places.now c.args.xs.now c.args.ys.now c.loop-i.i c.loop-i.last w.in-Some.p.now c.requires (sym w.in-Some.ensures.value) w.if-p-last.false c.loop-i.invariant)
      | in_default w ↦ rw w.last-is (rises-skip c.args.places.now c.args.xs.now c.args.ys.now c.loop-i.i c.loop-i.last c.requires (sym w.in_default.ensures.value) c.loop-i.invariant)
    ]

pub returns : goal.returns
returns c =
    let all : c.loop-i.i ≡ length c.args.ys.now = omega arith in
    rises-all c.args.xs.now c.args.ys.now c.loop-i.last (subst (λ (n : ℕ). Rises c.args.xs.now c.args.ys.now n c.loop-i.last) all c.loop-i.invariant)
