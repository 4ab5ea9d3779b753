use Rattle.ot_conform.proofs.Conforming.{steps_conform}
use Rattle.ot_conform.proofs.laws.steps_conform.Goals as goal

pub returns : goal.returns
returns c = steps_conform
