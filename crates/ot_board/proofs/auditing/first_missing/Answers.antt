use Rattle.std.proofs.Common.{rules, arith}
use Rattle.ot_board.specs.Tiling.{IsThere}
use Rattle.ot_board.proofs.Tiles.{all_taken, one_more, read_at}
use Rattle.ot_board.proofs.auditing.first_missing.Goals as goal

pub returns-then-not-is_there-clause-some : goal.returns-then-not-is_there-clause-some
returns-then-not-is_there-clause-some c =
    record {
      receipt = c.index-receipts-i.result;
      receipt_is = read_at _ _ _ c.loop-i-test.true c.index-receipts-i.is;
      missing = search rules;
      before = c.loop-i.invariant;
    }

pub loop-i-preserved : goal.loop-i-preserved
loop-i-preserved c = one_more (IsThere c.args.log.now.instrs) _ _ c.index-receipts-i.result c.loop-i-test.true c.index-receipts-i.is c.loop-i.invariant (search rules)

pub returns-clause-none : goal.returns-clause-none
returns-clause-none c = all_taken (IsThere c.args.log.now.instrs) _ c.loop-i.i (omega arith) c.loop-i.invariant
