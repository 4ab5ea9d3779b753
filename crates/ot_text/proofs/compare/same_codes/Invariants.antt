use Rattle.std.proofs.Common.{length}
use Rattle.ot_text.proofs.Same.{AreAsFar}
use Rattle.ot_text.proofs.compare.same_codes.Given as goal

abbrev pub invariant-codes : goal.invariant-codes
invariant-codes l = AreAsFar l.initial.at_a l.initial.at_b l.at_a l.at_b

abbrev pub decreases-codes : goal.decreases-codes
decreases-codes l = length l.at_a
