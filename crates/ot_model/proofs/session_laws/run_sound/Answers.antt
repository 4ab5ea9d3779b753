use Rattle.ot_model.proofs.session_laws.run_sound.Goals as goal
use Rattle.ot_model.proofs.Steps.{opening_sound, run_sound}
use Rattle.ot_model.specs.Table.{begin}
use Rattle.ot_model.proofs.Algebra.{laws}

pub returns : goal.returns
returns c = λ clients present text is q few within short all e. run_sound laws is (begin clients present text) q (opening_sound clients present text few within short) all e
