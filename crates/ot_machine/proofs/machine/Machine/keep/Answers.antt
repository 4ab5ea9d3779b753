use Rattle.ot_machine.proofs.RowLaws.{wanting}
use Rattle.ot_machine.proofs.machine.Machine.keep.Goals as goal

pub returns-in_err-reserve_for-clause-refused : goal.returns-in_err-reserve_for-clause-refused
returns-in_err-reserve_for-clause-refused c =
    wanting c.from_residual-in_err-reserve_for.result _ c.from_residual-in_err-reserve_for.ensures.1 (c.in_ok-list.ensures.performs c.in_err-reserve_for.ensures.some)
