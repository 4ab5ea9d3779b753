use Rattle.ot_machine.proofs.RunLaws.{runs_sound}
use Rattle.ot_machine.proofs.laws.runs_are_sound.Goals as goal

pub returns : goal.returns
returns c = runs_sound
