use Rattle.std.proofs.Common.{rules, below_more}
use Rattle.ot_board.proofs.Tiles.{overlap, no_overlap, rising}
use Rattle.ot_board.proofs.auditing.first_backwards.Goals as goal

pub returns-then-overlaps-clause-some : goal.returns-then-overlaps-clause-some
returns-then-overlaps-clause-some c =
    record {
      backwards = overlap c.args.receipts.now c.loop-i.i _ _ c.loop-i.auto.i c.loop-i-test.true c.index-receipts-i.is c.index-receipts-i-in-loop-i.is (search rules);
      before = c.loop-i.invariant;
    }

pub loop-i-preserved : goal.loop-i-preserved
loop-i-preserved c =
    below_more _ _ c.loop-i.invariant (no_overlap c.args.receipts.now c.loop-i.i _ _ c.loop-i.auto.i c.loop-i-test.true c.index-receipts-i.is c.index-receipts-i-in-loop-i.is (search rules))

pub returns-clause-none : goal.returns-clause-none
returns-clause-none c = rising c.args.receipts.now c.loop-i.i c.loop-i-test.false c.loop-i.invariant
