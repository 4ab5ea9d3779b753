use Rattle.ot_image.proofs.Agreeing.{refusals_agree}
use Rattle.ot_image.proofs.laws.faults_are_those_of_the_layout.Goals as goal

pub returns : goal.returns
returns c = refusals_agree
