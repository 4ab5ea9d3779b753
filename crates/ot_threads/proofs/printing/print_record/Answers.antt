use Rattle.ot_threads.proofs.Recorded.{recorded}
use Rattle.ot_threads.proofs.printing.print_record.Goals as goal

pub returns-clause-some : goal.returns-clause-some
returns-clause-some c =
    recorded c.args.plan.now c.args.schedule.now c.args.machine c.in_ok-bytes.bytes.items (c.in_ok-follows.ensures.0 c.if-not-branch.false) c.requires c.in_ok-bytes.ensures
