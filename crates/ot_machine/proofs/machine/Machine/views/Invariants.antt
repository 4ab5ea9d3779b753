use Rattle.std.proofs.Common.{◌≡◌, map, take}
use Rattle.ot_machine.specs.Readers.{client_view}
use Rattle.ot_machine.proofs.machine.Machine.views.Given as goal

abbrev pub invariant-loop-client : goal.invariant-loop-client
invariant-loop-client l = l.views.items ≡ map client_view (take l.client l.self.clients)
