use Rattle.streams.specs.Lines.{lines_of}
use Rattle.ot_faults.proofs.Above.{IsAbove}
use Rattle.ot_faults.proofs.reached.find_line.Given as goal

abbrev pub invariant-loop-above : goal.invariant-loop-above
invariant-loop-above l = IsAbove (lines_of l.text) (lines_of l.rest) l.number l.above l.reached

abbrev pub decreases-loop-above : goal.decreases-loop-above
decreases-loop-above l = l.above
