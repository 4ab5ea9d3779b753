use Rattle.ot_codes.proofs.Reading.{FitsUpTo}
use Rattle.ot_codes.proofs.cursor.fitting.Given as goal

abbrev pub invariant-loop-count : goal.invariant-loop-count
invariant-loop-count l = FitsUpTo l.fn.from l.codes l.limit l.by l.count l.sum
