use Rattle.ot_verdict.proofs.First.{completion_takes}
use Rattle.ot_verdict.proofs.laws.completion_takes.Goals as goal

pub returns : goal.returns
returns c = completion_takes
