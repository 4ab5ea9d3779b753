use Rattle.ot_codes.proofs.Filled.{filled_fits}
use Rattle.ot_codes.proofs.laws.filled_fits.Goals as goal

pub returns : goal.returns
returns g c = λ op text fits. filled_fits op text fits
