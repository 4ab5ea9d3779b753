use Rattle.ot_conform.proofs.Counting.{steps_are_counted}
use Rattle.ot_conform.proofs.laws.steps_are_counted.Goals as goal

pub returns : goal.returns
returns c = steps_are_counted
