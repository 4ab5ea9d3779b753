use Rattle.std.proofs.Common.{rules}
use Rattle.ot_machine.proofs.Applying.{made}
use Rattle.ot_machine.proofs.seat.deliver.Goals as goal

pub returns-clause-applied : goal.returns-clause-applied
returns-clause-applied g c =
    made c.args.seat.now c.in-Some.client c.args.op.now c.revision-number.result c.in_ok-change.applied_op c.of.result
    (search rules) c.revision-number.ensures c.in_ok-change.ensures.applied c.of.ensures
