use Rattle.std.proofs.Common.{nat_lt, arith, rules}
use Rattle.std.proofs.lemmas.Bool.{OnTrue_from}
use Rattle.std.proofs.lemmas.Nat.{le_or_l, le_or_r}
use Rattle.ot_values.proofs.Ascii.{all_ascii, put_all, put_byte, put_none}
use Rattle.ot_values.proofs.letters.put_low.Goals as goal

pub loop-place-init : goal.loop-place-init
loop-place-init g c = λ _. put_none g.T.Letter.code c.args.letters.now c.args.bytes.now

pub loop-place-preserved : goal.loop-place-preserved
loop-place-preserved g c = λ low.
    let before = le_or_l c.loop-place.bits c.letter-number.result in
    let own = le_or_r c.loop-place.bits c.letter-number.result in
    put_byte g.T.Letter.code c.args.letters.now c.loop-place.place c.index-letters-place.result c.letter-number.result c.low_byte.result c.loop-place.bytes
    c.loop-place-test.true c.index-letters-place.is c.letter-number.ensures (omega (arith, c.requires, c.loop-place.auto.bytes, c.loop-place-test.true))
    (omega (arith, low, own)) (c.low_byte.ensures (omega (arith, low, own))) (c.loop-place.invariant (omega (arith, low, before)))

pub returns-clause-bytes : goal.returns-clause-bytes
returns-clause-bytes g c = OnTrue_from (nat_lt c.loop-place.bits 128) _ (λ low.
    put_all g.T.Letter.code c.args.letters.now c.loop-place.place c.loop-place.bytes (c.loop-place.invariant (search (rules, low))) c.loop-place-test.false c.loop-place.auto.place-end)

pub returns-clause-ascii : goal.returns-clause-ascii
returns-clause-ascii g c = OnTrue_from (nat_lt c.loop-place.bits 128) _ (λ low.
    all_ascii g.T.Letter.code c.args.letters.now c.loop-place.place c.loop-place.bytes (c.loop-place.invariant (search (rules, low))) c.loop-place-test.false c.loop-place.auto.place-end)
