use Rattle.std.proofs.Common.{arith}
use Rattle.ot_workers.proofs.Counted.{inserted_past}
use Rattle.ot_workers.proofs.sharing.insert_at_most.Goals as goal

pub returns-then-len-left : goal.returns-then-len-left
returns-then-len-left c =
    let long = c.len.ensures in
    let over = c.if-len-left.true in (
      (λ none. absurd (cc)),
      (λ fits. absurd (inserted_past c.args.actions.now c.loop-action.action-index c.action-item.result c.args.most c.loop-action.left c.loop-action-test.true c.action-item.is c.loop-action.invariant (omega arith) fits)),
    )
