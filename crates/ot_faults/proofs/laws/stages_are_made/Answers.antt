use Rattle.ot_faults.proofs.Made.{stages_made}
use Rattle.ot_faults.proofs.laws.stages_are_made.Goals as goal

pub returns : goal.returns
returns c = stages_made
