use Rattle.std.proofs.Common.{rules, refl, length}
use Rattle.ot_machine.proofs.Sweeps.{IsReserved_same, IsReserved_next, IsReserved_end}
use Rattle.ot_machine.proofs.seat.reserve_all.Goals as goal

pub returns-in_err-reserve-clause-same : goal.returns-in_err-reserve-clause-same
returns-in_err-reserve-clause-same c =
    IsReserved_same c.loop-place.place (length c.loop-place.seats.items) c.loop-place.seats.items _ c.index_mut.result.now c.reserve.new.seat
    c.loop-place.invariant refl (search rules) c.index_mut.ensures.value c.reserve.ensures.same

pub loop-place-preserved : goal.loop-place-preserved
loop-place-preserved c =
    IsReserved_next c.loop-place.place (length c.loop-place.seats.items) c.loop-place.seats.items _ c.index_mut.result.now c.reserve.new.seat
    c.loop-place.invariant refl (search rules) c.index_mut.ensures.value c.reserve.ensures.same c.in_ok-reserve.ensures.room

pub returns-clause-room : goal.returns-clause-room
returns-clause-room c = IsReserved_end c.loop-place.place c.loop-place.seats.items _ c.loop-place.invariant (search rules)
