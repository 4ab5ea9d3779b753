use Rattle.std.proofs.Common.{◌≡◌, map}
use Rattle.ot_machine.specs.Seats.{view_of, swept}
use Rattle.ot_machine.specs.Undoing.{unsent}
use Rattle.ot_machine.proofs.kept.unsend_all.Given as goal

abbrev pub invariant-loop-place : goal.invariant-loop-place
invariant-loop-place l = map view_of l.seats.items ≡ swept unsent l.place (map view_of l.initial.seats.items)
