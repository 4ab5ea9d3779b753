use Rattle.ot_model.proofs.part_laws.session_sound.Goals as goal
use Rattle.ot_model.proofs.Sessions.{session_sound}

pub returns : goal.returns
returns c = session_sound
