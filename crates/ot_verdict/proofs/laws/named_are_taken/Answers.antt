use Rattle.ot_verdict.proofs.Named.{named_are_taken}
use Rattle.ot_verdict.proofs.laws.named_are_taken.Goals as goal

pub returns : goal.returns
returns c = named_are_taken
