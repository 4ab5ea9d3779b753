use Rattle.std.proofs.Common.{◌≡◌, ◌++◌, map, replicate}
use Rattle.ot_model.specs.Table.{absent}
use Rattle.ot_machine.specs.Seats.{view_of, idle}
use Rattle.ot_machine.proofs.seat.add_vacant.Given as goal

abbrev pub invariant-loop-place : goal.invariant-loop-place
invariant-loop-place l =
    map view_of l.seats.items ≡ map view_of l.initial.seats.items ++ replicate l._place (idle (absent))
