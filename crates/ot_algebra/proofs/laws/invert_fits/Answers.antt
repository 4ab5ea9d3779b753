use Rattle.ot_operation.proofs.LengthLaws.{invert_fits}
use Rattle.ot_algebra.proofs.laws.invert_fits.Goals as goal

pub returns : goal.returns
returns g c = invert_fits
