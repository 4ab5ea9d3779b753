use Rattle.std.proofs.Common.{rules, refl, length}
use Rattle.ot_machine.proofs.Reading.{settled_next, settled_all, settled_none}
use Rattle.ot_machine.proofs.seat.are_settled.Goals as goal

pub returns-then-not-is_settled : goal.returns-then-not-is_settled
returns-then-not-is_settled c = (
  λ no. search (rules, no),
  λ settled. absurd (settled_none c.args.seats.now c.loop-seat.seat-index (length c.args.seats.now) c.seat-item.result refl c.loop-seat-test.true c.seat-item.is (λ yes. search (rules, c.is_settled.ensures.1 yes)) settled),
)

pub loop-seat-preserved : goal.loop-seat-preserved
loop-seat-preserved c =
    settled_next c.args.seats.now c.loop-seat.seat-index (length c.args.seats.now) c.seat-item.result c.loop-seat.invariant refl c.loop-seat-test.true c.seat-item.is (c.is_settled.ensures.0 (search rules))

pub returns : goal.returns
returns c = (
  λ yes. settled_all c.args.seats.now c.loop-seat.seat-index (length c.args.seats.now) c.loop-seat.invariant refl (search rules),
  λ settled. search rules,
)
