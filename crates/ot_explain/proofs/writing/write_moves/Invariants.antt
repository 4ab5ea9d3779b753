use Rattle.ot_explain.proofs.Progress.{IsAt}
use Rattle.ot_explain.proofs.writing.write_moves.Given as goal

abbrev pub invariant-loop-number : goal.invariant-loop-number
invariant-loop-number g l = IsAt l.lines l.comments l.schedule l.number l.machine (g.W.Write.contents l.fn.output) (g.W.Write.contents l.output)
