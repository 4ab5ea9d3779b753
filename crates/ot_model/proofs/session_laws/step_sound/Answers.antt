use Rattle.ot_model.proofs.session_laws.step_sound.Goals as goal
use Rattle.ot_model.proofs.Steps.{step_sound}
use Rattle.ot_model.proofs.Algebra.{laws}

pub returns : goal.returns
returns c = step_sound laws
