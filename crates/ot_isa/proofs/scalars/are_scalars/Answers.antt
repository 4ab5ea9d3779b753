use Rattle.std.proofs.Common.{◌≡◌, ◌++◌, ◌∷◌, [], ◌+◌, take, rules, add-one}
use Rattle.std.proofs.lemmas.List.{take_all}
use Rattle.std.specs.Char.{IsScalar}
use Rattle.ot_isa.proofs.Lists.{take_more}
use Rattle.ot_isa.proofs.ScalarLists.{all_scalars-more}
use Rattle.ot_isa.proofs.scalars.are_scalars.Goals as goal

pub loop-ch-preserved : goal.loop-ch-preserved
loop-ch-preserved c =
    let is : IsScalar c.ch-item.result = search rules in
    let more : take (c.loop-ch.ch-index + 1) c.args.text.now ≡ take c.loop-ch.ch-index c.args.text.now ++ c.ch-item.result ∷ [] = rw add-one (take_more c.args.text.now c.loop-ch.ch-index c.ch-item.result c.loop-ch-test.true c.ch-item.is) in
    rw more (all_scalars-more (take c.loop-ch.ch-index c.args.text.now) c.ch-item.result c.loop-ch.invariant is)

pub returns : goal.returns
returns c =
    let all = take_all c.loop-ch.ch-index c.args.text.now c.loop-ch-test.false in
    rw all at c.loop-ch.invariant
