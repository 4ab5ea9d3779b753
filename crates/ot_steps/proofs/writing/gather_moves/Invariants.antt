use Rattle.ot_steps.proofs.Progress.{IsAt}
use Rattle.ot_steps.proofs.writing.gather_moves.Given as goal

abbrev pub invariant-loop-place : goal.invariant-loop-place
invariant-loop-place g l = IsAt l.documents l.schedule l.place l.machine (g.W.Write.contents l.fn.output) (g.W.Write.contents l.output) l.fn.held.items l.held.items
