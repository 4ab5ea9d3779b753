use Rattle.ot_operation.proofs.LengthLaws.{transform_fits}
use Rattle.ot_algebra.proofs.laws.transform_fits.Goals as goal

pub returns : goal.returns
returns g c = transform_fits
