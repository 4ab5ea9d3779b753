use Rattle.ot_workers.proofs.Uplinks.{HaveTaken}
use Rattle.ot_workers.proofs.turns.take_all.Given as goal

abbrev pub invariant-loop-client : goal.invariant-loop-client
invariant-loop-client l = HaveTaken l.fn.board l.fn.receipts.items l.client l.board l.receipts.items
