use Rattle.std.proofs.Common.{◌≡◌, take}
use Rattle.ot_verdict.specs.Pending.{each_gives, is_absent, number_if}
use Rattle.ot_verdict.proofs.waiting.absent.Given as goal

abbrev pub invariant-loop-client : goal.invariant-loop-client
invariant-loop-client l = l.list.items ≡ each_gives (λ c x. number_if (is_absent x) c) 0 (take l.client l.machine.clients)
