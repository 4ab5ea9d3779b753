use Rattle.ot_machine.proofs.RunLaws.{runs_converge}
use Rattle.ot_machine.proofs.laws.runs_converge.Goals as goal

pub returns : goal.returns
returns c = runs_converge
