use Rattle.std.proofs.Common.{◌∙◌, arith}
use Rattle.ot_values.proofs.Escaping.{one_more_plain}
use Rattle.ot_values.proofs.letters.are_plain.Goals as goal

pub loop-item-preserved : goal.loop-item-preserved
loop-item-preserved g c =
    let is = c.letter-letter.ensures in
    one_more_plain g.T.Letter.code c.args.letters.now c.loop-item.item-index c.item-item.result c.loop-item-test.true c.item-item.is
    (omega (arith, is, c.if-letter-lt32.false)) (λ e. c.if-letter-eq34.false (is ∙ e)) (λ e. c.if-letter-eq92.false (is ∙ e)) c.loop-item.invariant
