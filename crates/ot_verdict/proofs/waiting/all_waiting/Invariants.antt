use Rattle.std.proofs.Common.{◌≡◌, take}
use Rattle.ot_verdict.specs.Pending.{each_gives, waiting_at}
use Rattle.ot_verdict.proofs.waiting.all_waiting.Given as goal

abbrev pub invariant-loop-client : goal.invariant-loop-client
invariant-loop-client l = l.list.items ≡ each_gives (waiting_at l.machine) 0 (take l.client l.machine.clients)
