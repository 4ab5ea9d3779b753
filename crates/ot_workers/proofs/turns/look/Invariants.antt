use Rattle.ot_workers.proofs.Seen.{AreFirstSeen}
use Rattle.ot_workers.proofs.turns.look.Given as goal

abbrev pub invariant-loop-client : goal.invariant-loop-client
invariant-loop-client l = AreFirstSeen l.board l.typing l.typed l.client l.seats
