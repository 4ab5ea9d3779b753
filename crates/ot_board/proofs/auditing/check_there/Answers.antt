use Rattle.std.proofs.Common.{rules}
use Rattle.std.specs.List.{All}
use Rattle.ot_board.specs.Tiling.{IsThere}
use Rattle.ot_board.proofs.Tiles.{all_workers, one_more_worker}
use Rattle.ot_board.proofs.auditing.check_there.Goals as goal

pub loop-w-preserved : goal.loop-w-preserved
loop-w-preserved c = one_more_worker (All (IsThere c.args.log.now.instrs)) c.args.workers.now c.loop-w.w _ c.loop-w-test.true c.index-workers-w.is c.loop-w.invariant (search rules)

pub returns-clause-ok : goal.returns-clause-ok
returns-clause-ok c = all_workers (All (IsThere c.args.log.now.instrs)) c.args.workers.now c.loop-w.w c.loop-w-test.false c.loop-w.invariant
