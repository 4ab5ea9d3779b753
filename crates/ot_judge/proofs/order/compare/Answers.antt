use Rattle.std.proofs.Common.{◌∙◌, arith, sym}
use Rattle.ot_judge.proofs.Rising.{agree-along, nth-items}
use Rattle.ot_judge.proofs.order.compare.Goals as goal

pub returns : goal.returns
returns c =
    let at_d = nth-items c.args.lists.now c.args.d c.index-lists-d.result (omega (arith, c.requires.later, c.requires.within)) c.index-lists-d.is ∙ sym c.as_slice-xs.ensures.value in
    let at_e = nth-items c.args.lists.now c.args.e c.index-lists-e.result c.requires.within c.index-lists-e.is ∙ sym c.as_slice.ensures.value in
    agree-along _ _ _ _ at_d at_e c.in-None.ensures
