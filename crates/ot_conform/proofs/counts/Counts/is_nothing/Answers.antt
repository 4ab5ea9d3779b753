use Rattle.std.proofs.Common.{◌∙◌, sym, arith, false, true}
use Rattle.ot_conform.specs.Counted.{counted_keys}
use Rattle.ot_conform.proofs.Places.{nothing_done, nothing_goes}
use Rattle.ot_conform.proofs.counts.Counts.is_nothing.Goals as goal

pub returns-then-not-shows_nothing : goal.returns-then-not-shows_nothing
returns-then-not-shows_nothing c =
    sym (c.loop-place.invariant
    ∙ nothing_goes counted_keys c.args.self.now.values c.loop-place.place _ _ false c.loop-place-test.true (omega (arith, c.loop-place-test.true, c.type_inv.self)) (sym c.shows_nothing.ensures ∙ c.if-not-shows_nothing.true))

pub loop-place-preserved : goal.loop-place-preserved
loop-place-preserved c =
    c.loop-place.invariant
    ∙ nothing_goes counted_keys c.args.self.now.values c.loop-place.place _ _ true c.loop-place-test.true (omega (arith, c.loop-place-test.true, c.type_inv.self)) (sym c.shows_nothing.ensures ∙ c.if-not-shows_nothing.false)

pub returns : goal.returns
returns c = sym (c.loop-place.invariant ∙ nothing_done counted_keys c.args.self.now.values c.loop-place.place (omega (arith, c.loop-place-test.false)))
