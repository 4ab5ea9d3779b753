use Rattle.std.proofs.Common.{[]}
use Rattle.ot_board.specs.Lents.{session_of}
use Rattle.ot_workers.proofs.Heard.{made_none, made_more}
use Rattle.ot_workers.proofs.playing.look_once.Goals as goal

pub returns-in-Ok-clause-ok : goal.returns-in-Ok-clause-ok
returns-in-Ok-clause-ok c =
    let x = session_of c.args.lent in
    made_more x x (session_of c.in-Ok.next) [] _ _ (made_none x) c.in-Ok.ensures.ok
