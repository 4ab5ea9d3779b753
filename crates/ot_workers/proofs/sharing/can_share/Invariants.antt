use Rattle.ot_workers.proofs.Counted.{MayTypeFirst}
use Rattle.ot_workers.proofs.sharing.can_share.Given as goal

abbrev pub invariant-loop-client : goal.invariant-loop-client
invariant-loop-client l = MayTypeFirst l.board l.typing l.client
