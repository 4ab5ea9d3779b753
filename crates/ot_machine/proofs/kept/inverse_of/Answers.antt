use Rattle.ot_machine.proofs.Undoing.{gives_back}
use Rattle.ot_machine.proofs.kept.inverse_of.Goals as goal

pub returns-clause-kept : goal.returns-clause-kept
returns-clause-kept g c = λ yes. gives_back c.args.op.now c.in_ok-inverse.inverse c.args.list.now c.base_len-operation.ensures.operation c.requires c.in_ok-inverse.ensures.value
