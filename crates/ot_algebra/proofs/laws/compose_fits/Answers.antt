use Rattle.ot_operation.proofs.LengthLaws.{compose_fits}
use Rattle.ot_algebra.proofs.laws.compose_fits.Goals as goal

pub returns : goal.returns
returns g c = compose_fits
