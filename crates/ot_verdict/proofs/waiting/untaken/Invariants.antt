use Rattle.std.proofs.Common.{◌≡◌, take}
use Rattle.ot_verdict.specs.Pending.{each_gives, has_untaken, number_if}
use Rattle.ot_verdict.proofs.waiting.untaken.Given as goal

abbrev pub invariant-loop-client : goal.invariant-loop-client
invariant-loop-client l = l.list.items ≡ each_gives (λ c x. number_if (has_untaken x) c) 0 (take l.client l.machine.clients)
