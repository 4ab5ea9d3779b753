use Rattle.ot_board.specs.Lents.{session_of}
use Rattle.ot_workers.proofs.Heard.{HasHeardFirst}
use Rattle.ot_workers.proofs.playing.hear.Given as goal

abbrev pub invariant-loop-place : goal.invariant-loop-place
invariant-loop-place l = HasHeardFirst (session_of l.fn.lent) l.place (session_of l.lent)
