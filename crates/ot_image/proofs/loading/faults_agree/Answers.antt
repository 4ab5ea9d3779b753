use Rattle.ot_image.proofs.Faults.{faults_agree}
use Rattle.ot_image.proofs.loading.faults_agree.Goals as goal

pub returns : goal.returns
returns c = faults_agree
