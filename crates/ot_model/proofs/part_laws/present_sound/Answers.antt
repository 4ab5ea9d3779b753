use Rattle.ot_model.proofs.part_laws.present_sound.Goals as goal
use Rattle.ot_model.proofs.Sessions.{present_sound}

pub returns : goal.returns
returns c = present_sound
