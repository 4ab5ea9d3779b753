use Rattle.std.proofs.Common.{subst}
use Rattle.ot_board.specs.Tiling.{AreRising}
use Rattle.ot_board.proofs.Tiles.{all_workers, one_more_worker}
use Rattle.ot_board.proofs.auditing.check_rising.Goals as goal

pub loop-w-preserved : goal.loop-w-preserved
loop-w-preserved c = one_more_worker AreRising c.args.workers.now c.loop-w.w _ c.loop-w-test.true c.index-workers-w.is c.loop-w.invariant (subst AreRising c.as_slice.ensures.value (c.in_default.ensures.none))

pub returns-clause-ok : goal.returns-clause-ok
returns-clause-ok c = all_workers AreRising c.args.workers.now c.loop-w.w c.loop-w-test.false c.loop-w.invariant
