use Rattle.std.proofs.Common.{refl}
use Rattle.ot_board.specs.Lents.{session_of}
use Rattle.ot_workers.proofs.Receipted.{receipts_same}
use Rattle.ot_workers.proofs.Unsettled.{refused_at_once, settled_in_part}
use Rattle.ot_workers.proofs.turns.settle.Goals as goal

pub returns-in-Err-clause-receipts : goal.returns-in-Err-clause-receipts
returns-in-Err-clause-receipts c = receipts_same c.args.board.now c.replay.new.self c.args.receipts.now.items c.args.receipts.now.items c.in-Err.ensures.unchanged refl

pub returns-in-Some-clause-unsettled : goal.returns-in-Some-clause-unsettled
returns-in-Some-clause-unsettled c =
    settled_in_part (session_of c.args.lent) c.args.board.now c.replay.new.self c.in-Ok.field-0 c.in-Some.refusal c.from.result c.from.ensures c.in-Ok.ensures.ok c.in-Some.is c.in-Ok.ensures.here

pub returns-in-Err-clause-unsettled : goal.returns-in-Err-clause-unsettled
returns-in-Err-clause-unsettled c =
    refused_at_once (session_of c.args.lent) c.args.board.now c.replay.new.self c.in-Err.refusal c.from-in-Err.result c.from-in-Err.ensures c.in-Err.ensures.refused c.in-Err.ensures.unchanged
