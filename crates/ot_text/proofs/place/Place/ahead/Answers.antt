use Rattle.std.proofs.Common.{◌∙◌, length, ap, arith}
use Rattle.ot_text.proofs.InPlace.{ahead_inside, ahead_last}
use Rattle.ot_text.proofs.place.Place.ahead.Goals as goal

pub returns-then-next-leaves : goal.returns-then-next-leaves
returns-then-next-leaves g c =
    let there = c.if-next-leaves.true in
    ahead_inside c.args.list.now c.args.self.leaf c.args.self.offset c.args.count c.find-next.result.0 c.find-next.result.1 c.requires.there c.requires.within
    (omega (arith, c.if-count-rest.false, ap length c.leaf.ensures)) c.find-next.ensures.order (c.find-next.ensures.count ∙ omega (arith, ap length c.leaf.ensures)) (omega (arith, there, c.leaf_count-leaves.ensures.count))
    (c.find-next.ensures.next (omega (arith, there, c.leaf_count-leaves.ensures.count)))

pub returns : goal.returns
returns g c =
    ahead_last c.args.list.now c.args.self.leaf c.args.self.offset c.args.count c.find-next.result.0 c.find-next.result.1 c.requires.there c.requires.within
    (omega (arith, c.if-count-rest.false, ap length c.leaf.ensures)) c.find-next.ensures.order (c.find-next.ensures.count ∙ omega (arith, ap length c.leaf.ensures)) (length c.leaf-2.result.now)
    (omega (arith, c.if-next-leaves.false, c.leaf_count-leaves.ensures.count)) c.find-next.ensures.within (ap length c.leaf-2.ensures) c.requires.fits
