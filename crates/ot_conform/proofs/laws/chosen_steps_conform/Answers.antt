use Rattle.ot_conform.proofs.Selecting.{chosen_steps_conform}
use Rattle.ot_conform.proofs.laws.chosen_steps_conform.Goals as goal

pub returns : goal.returns
returns c = chosen_steps_conform
