use Rattle.std.proofs.Common.{◌≡◌, ◌≤◌, ◌++◌, ap, ◌∙◌, arith, decimal}
use Rattle.ot_json.proofs.PlainText.{count_first, count_more}
use Rattle.ot_json.proofs.plain.plain_count.Goals as goal

pub loop-byte-init : goal.loop-byte-init
loop-byte-init c = record {
  text = c.in-Some.ensures.cases.0 ∙ count_first c.in-Some.first.now c.in-Some.rest.now c.if-first-lt49.false c.if-first-gt57.false;
  some = omega arith;
  small = omega arith;
}

pub loop-byte-preserved : goal.loop-byte-preserved
loop-byte-preserved c =
    let count = c.loop-byte.count in
    let byte = c.in-Some-split_first.byte.now in
    let low : 48 ≤ byte = omega (arith, c.if-not-is_ascii_digit.ensures.cases) in
    let high : byte ≤ 57 = omega (arith, c.if-not-is_ascii_digit.ensures.cases) in
    let so_far = c.loop-byte.invariant in
    record {
      text = count_more c.args.bytes.now c.in-Some-split_first.below.now count byte so_far.some so_far.small low high
          (so_far.text ∙ ap (λ l. decimal count ++ l) c.in-Some-split_first.ensures.cases.0);
      some = omega arith;
      small = omega arith;
    }
