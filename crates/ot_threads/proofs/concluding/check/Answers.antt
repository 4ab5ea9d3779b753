use Rattle.std.proofs.Common.{ap, ◌∙◌, subst}
use Rattle.ot_board.specs.Tiling.{lists, IsFault}
use Rattle.ot_threads.proofs.concluding.check.Goals as goal

pub returns-in-Err-clause-err : goal.returns-in-Err-clause-err
returns-in-Err-clause-err c =
    subst (λ receipts. IsFault c.args.finished.schedule.instrs receipts c.in-Err.fault) (ap lists c.as_slice.ensures.value ∙ c.in_ok-receipts.ensures) c.in-Err.ensures.err
