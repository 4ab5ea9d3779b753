use Rattle.ot_machine.proofs.Reading.{AreSettledBelow}
use Rattle.ot_machine.proofs.seat.are_settled.Given as goal

abbrev pub invariant-loop-seat : goal.invariant-loop-seat
invariant-loop-seat l = AreSettledBelow l.seat-index l.seats
