use Rattle.std.proofs.Common.{rules, refl, length}
use Rattle.ot_machine.proofs.Sweeps.{IsSwept_next, IsSwept_end, send_room}
use Rattle.ot_machine.proofs.seat.send_all.Goals as goal

pub send-requires : goal.send-requires
send-requires c =
    send_room c.args.number c.loop-place.place (length c.loop-place.seats.items) c.loop-place.seats.items _ c.index_mut.result.now
    c.loop-place.invariant refl (search rules) c.index_mut.ensures.value

pub loop-place-preserved : goal.loop-place-preserved
loop-place-preserved c =
    IsSwept_next c.args.number c.loop-place.place (length c.loop-place.seats.items) c.loop-place.seats.items _ c.index_mut.result.now c.send.new.seat
    c.loop-place.invariant refl (search rules) c.index_mut.ensures.value c.send.ensures

pub returns : goal.returns
returns c = IsSwept_end c.args.number c.loop-place.place c.loop-place.seats.items _ c.loop-place.invariant (search rules)
