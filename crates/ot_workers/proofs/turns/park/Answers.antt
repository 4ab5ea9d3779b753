use Rattle.ot_board.specs.Lents.{session_of}
use Rattle.ot_workers.proofs.Unsettled.{refused_at_once}
use Rattle.ot_workers.proofs.turns.park.Goals as goal

pub returns-in-Err-clause-unsettled : goal.returns-in-Err-clause-unsettled
returns-in-Err-clause-unsettled c =
    refused_at_once (session_of c.args.lent) c.args.board.now c.hold.new.self c.in-Err.refusal c.from.result c.from.ensures c.in-Err.ensures.stranger c.in-Err.ensures.unchanged
