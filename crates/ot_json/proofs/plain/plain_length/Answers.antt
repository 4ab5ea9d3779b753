use Rattle.std.proofs.Common.{arith}
use Rattle.ot_json.proofs.PlainText.{plain_more}
use Rattle.ot_json.proofs.plain.plain_length.Goals as goal

pub loop-at-preserved : goal.loop-at-preserved
loop-at-preserved c = record {
  plain = plain_more c.args.bytes.now c.loop-at.at c.loop-at-test.true c.if-byte-lt32.false c.if-byte-eq34.false c.if-byte-eq92.false c.loop-at.invariant.plain;
  within = omega arith;
}
