use Rattle.std.proofs.Common.{rules, refl, length}
use Rattle.ot_machine.proofs.Reverting.{swept_seat, swept_end}
use Rattle.ot_machine.specs.Undoing.{unsent}
use Rattle.ot_machine.proofs.kept.unsend_all.Goals as goal

pub loop-place-preserved : goal.loop-place-preserved
loop-place-preserved c =
    swept_seat unsent c.loop-place.place (length c.loop-place.seats.items) c.loop-place.seats.items _ c.index_mut.result.now c.unsend.new.seat
    c.loop-place.invariant refl (search rules) c.index_mut.ensures.value c.unsend.ensures

pub returns : goal.returns
returns c = swept_end unsent c.loop-place.place c.loop-place.seats.items _ c.loop-place.invariant (search rules)
