use Rattle.std.proofs.Common.{length}
use Rattle.ot_explain.proofs.LineByLine.{HasFound}
use Rattle.ot_explain.proofs.placing.places.Given as goal

abbrev pub invariant-loop-line : goal.invariant-loop-line
invariant-loop-line l = HasFound l.text l.rest l.number l.found.items

abbrev pub decreases-loop-line : goal.decreases-loop-line
decreases-loop-line l = length l.rest
