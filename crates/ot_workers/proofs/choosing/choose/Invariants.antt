use Rattle.std.proofs.Common.{◌≡◌, ◌+◌, ◌-◌, length}
use Rattle.ot_workers.specs.Choosing.{first_from, choice}
use Rattle.ot_workers.proofs.choosing.choose.Given as goal

abbrev pub invariant-loop-i : goal.invariant-loop-i
invariant-loop-i l = first_from l.seats (l.worker + l.turn + l.i) (length l.seats - l.i) ≡ choice l.seats l.worker l.turn
