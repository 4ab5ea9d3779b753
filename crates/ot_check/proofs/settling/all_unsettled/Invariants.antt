use Rattle.std.proofs.Common.{◌≡◌, ◌++◌, drop}
use Rattle.ot_check.specs.Convergence.{all_from, all_unsettled, all_unsettled_at}
use Rattle.ot_check.proofs.settling.all_unsettled.Given as goal

abbrev pub invariant-loop-client : goal.invariant-loop-client
invariant-loop-client l = all_unsettled l.machine ≡ l.found.items ++ all_from (all_unsettled_at l.machine) l.client (drop l.client l.machine.clients)
