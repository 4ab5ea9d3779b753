use Rattle.ot_workers.proofs.Takes.{takes_one}
use Rattle.ot_workers.proofs.turns.take_one.Goals as goal

pub returns-clause-takes : goal.returns-clause-takes
returns-clause-takes c = takes_one c.args.board.now c.take.new.self c.args.client c.in_ok-receipt.receipt c.in_ok-receipt.ensures.ok
