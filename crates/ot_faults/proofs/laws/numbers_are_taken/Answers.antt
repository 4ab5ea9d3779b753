use Rattle.ot_faults.proofs.Ranged.{numbers_taken}
use Rattle.ot_faults.proofs.laws.numbers_are_taken.Goals as goal

pub returns : goal.returns
returns c = numbers_taken
