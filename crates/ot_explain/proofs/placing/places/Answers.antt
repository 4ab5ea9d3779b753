use Rattle.std.proofs.Common.{refl}
use Rattle.ot_explain.proofs.LineByLine.{found_all, found_next}
use Rattle.ot_explain.proofs.placing.places.Goals as goal

pub loop-line-preserved : goal.loop-line-preserved
loop-line-preserved c =
    let some = c.in-Some.ensures.some in
    found_next c.args.text.now c.loop-line.rest.now c.in-Some.line.now c.in-Some.below.now c.loop-line.number c.loop-line.found.items c.add_line.new.found.items
    c.loop-line.invariant some.0 some.1 c.in_ok-add_line.ensures

pub returns : goal.returns
returns c =
    found_all c.args.text.now c.loop-line.rest.now c.loop-line.number c.loop-line.found.items c.add_line-2.new.found.items
    c.loop-line.invariant (c.in_default.ensures.none refl) c.in_ok-add_line-2.ensures
