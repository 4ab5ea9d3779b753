use Rattle.ot_model.proofs.session_laws.opening_sound.Goals as goal
use Rattle.ot_model.proofs.Steps.{opening_sound}

pub returns : goal.returns
returns c = opening_sound
