use Rattle.std.proofs.Common.{◌≡◌, ℕ, arith, length, subst}
use Rattle.ot_judge.proofs.Seated.{NoneFalls, none-more, none-past, nowhere-all}
use Rattle.ot_judge.proofs.falls.falls_nowhere.Goals.{then-is_in+else-seat-highest, else-is_in}
use Rattle.ot_judge.proofs.falls.falls_nowhere.Goals as goal

pub loop-i-preserved : goal.loop-i-preserved
loop-i-preserved c = elim c.if-is_in.branch [
  | then-is_in+else-seat-highest w ↦ rw w.highest-is (none-more c.args.seats.now c.args.xs.now c.args.from c.args.to c.loop-i.i c.loop-i.highest 0 c.seat_of-seat.result c.loop-i-test.true c.seat_of-seat.ensures w.if-seat-highest.false c.loop-i.invariant)
  | else-is_in w ↦ rw w.highest-is (none-past c.args.seats.now c.args.xs.now c.args.from c.args.to c.loop-i.i c.loop-i.highest 0 c.seat_of-seat.result c.loop-i-test.true c.seat_of-seat.ensures (c.is_in.ensures.no w.if-is_in.false) c.loop-i.invariant)
]

pub returns : goal.returns
returns c = λ h.
    let all : c.loop-i.i ≡ length c.args.xs.now = omega arith in
    nowhere-all c.args.seats.now c.args.xs.now c.args.from c.args.to c.loop-i.highest (subst (λ (n : ℕ). NoneFalls c.args.seats.now c.args.xs.now c.args.from c.args.to n c.loop-i.highest) all c.loop-i.invariant)
