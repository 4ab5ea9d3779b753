use Rattle.std.proofs.Common.{◌≡◌, map, take}
use Rattle.ot_every.specs.Listing.{is_behind}
use Rattle.ot_every.proofs.marks.behind.Given as goal

abbrev pub invariant-loop-client : goal.invariant-loop-client
invariant-loop-client l = l.all.items ≡ map (is_behind l.machine) (take l.client l.machine.clients)
