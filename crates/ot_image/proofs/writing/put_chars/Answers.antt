use Rattle.std.proofs.Common.{◌≡◌, ◌++◌, ◌∷◌, [], ◌+◌, take, arith, add-one}
use Rattle.std.proofs.lemmas.List.{take_all}
use Rattle.std.proofs.lemmas.Grind.{common_steps}
use Rattle.ot_isa.proofs.Lists.{take_more}
use Rattle.ot_image.proofs.writing.put_chars.Goals as goal

pub loop-ch-preserved : goal.loop-ch-preserved
loop-ch-preserved c =
    let more : take (c.loop-ch.ch-index + 1) c.args.chars.now ≡ take c.loop-ch.ch-index c.args.chars.now ++ c.ch-item.result ∷ [] = rw add-one (take_more c.args.chars.now c.loop-ch.ch-index c.ch-item.result c.loop-ch-test.true c.ch-item.is) in
    grind (arith, common_steps)

pub returns : goal.returns
returns c =
    let all = take_all c.loop-ch.ch-index c.args.chars.now c.loop-ch-test.false in
    rw all at c.loop-ch.invariant
