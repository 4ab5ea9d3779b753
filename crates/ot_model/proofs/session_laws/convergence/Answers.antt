use Rattle.ot_model.proofs.session_laws.convergence.Goals as goal
use Rattle.ot_model.proofs.Steps.{converges}
use Rattle.ot_model.proofs.Algebra.{laws}

pub returns : goal.returns
returns c = converges laws
