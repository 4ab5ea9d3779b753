use Rattle.std.proofs.Common.{◌≡◌, ◌++◌, map, replicate}
use Rattle.ot_model.specs.Table.{present_with}
use Rattle.ot_machine.specs.Seats.{view_of, idle}
use Rattle.ot_machine.proofs.seat.add_present.Given as goal

abbrev pub invariant-loop-place : goal.invariant-loop-place
invariant-loop-place l =
    map view_of l.seats.items ≡ map view_of l.initial.seats.items ++ replicate l._place (idle (present_with l.document))
