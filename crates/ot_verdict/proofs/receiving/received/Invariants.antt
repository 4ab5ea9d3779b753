use Rattle.std.proofs.Common.{◌≡◌}
use Rattle.ot_client.specs.Client.{state_of}
use Rattle.ot_verdict.specs.Receiving.{IsReceiving}
use Rattle.ot_verdict.proofs.receiving.received.Given as goal

abbrev pub invariant-loop-number : goal.invariant-loop-number
invariant-loop-number l = record { receiving : IsReceiving l.machine l.client (state_of l.seat) l.list; revision : (state_of l.seat).revision ≡ l.number }
