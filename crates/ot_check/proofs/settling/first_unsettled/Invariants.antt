use Rattle.std.proofs.Common.{◌≡◌, drop}
use Rattle.ot_check.specs.Convergence.{first_from, first_unsettled, unsettled_at}
use Rattle.ot_check.proofs.settling.first_unsettled.Given as goal

abbrev pub invariant-loop-client : goal.invariant-loop-client
invariant-loop-client l = first_unsettled l.machine ≡ first_from (unsettled_at l.machine) l.client (drop l.client l.machine.clients)
