use Rattle.std.proofs.Common.{◌≡◌, take, true}
use Rattle.std.specs.List.{list_all}
use Rattle.ot_every.proofs.Settling.{settled_in}
use Rattle.ot_every.proofs.settled.is_settled.Given as goal

abbrev pub invariant-loop-client : goal.invariant-loop-client
invariant-loop-client l = list_all (settled_in l.machine) (take l.client l.machine.clients) ≡ true
