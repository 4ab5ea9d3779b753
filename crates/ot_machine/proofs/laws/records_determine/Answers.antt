use Rattle.ot_machine.proofs.Determined.{records_determine}
use Rattle.ot_machine.proofs.laws.records_determine.Goals as goal

pub returns : goal.returns
returns c = records_determine
