use Rattle.ot_verdict.proofs.Ending.{completion_ends}
use Rattle.ot_verdict.proofs.laws.completion_ends.Goals as goal

pub returns : goal.returns
returns c = completion_ends
