use Rattle.std.proofs.Common.{subst}
use Rattle.ot_machine.specs.Undoing.{IsRecord}
use Rattle.ot_machine.proofs.machine.Machine.undo.Goals as goal

pub returns-in-Read-clause-ok : goal.returns-in-Read-clause-ok
returns-in-Read-clause-ok c = λ earlier is. c.undo_read.ensures earlier (subst (IsRecord earlier c.args.self.now) c.in-Read.is is)
