use Rattle.ot_faults.proofs.Made.{words_taken}
use Rattle.ot_faults.proofs.laws.words_are_taken.Goals as goal

pub returns : goal.returns
returns c = words_taken
