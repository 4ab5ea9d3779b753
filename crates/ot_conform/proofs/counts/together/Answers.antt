use Rattle.std.proofs.Common.{◌∙◌, sym, arith, inl, inr}
use Rattle.ot_conform.proofs.Summing.{both_end, both_next}
use Rattle.ot_conform.proofs.counts.together.Goals as goal

pub loop-place-preserved : goal.loop-place-preserved
loop-place-preserved c = (
  rw c.saturating_add.ensures
      (c.loop-place.invariant.0 ∙ both_next c.loop-place.counts c.args.others.now c.loop-place.place _ _ (omega (arith, c.loop-place-test.true, c.type_inv.others))),
  inr (omega (arith, c.type_inv.others)),
)

pub returns : goal.returns
returns c =
    sym (
    c.loop-place.invariant.0
    ∙ both_end c.loop-place.counts c.args.others.now c.loop-place.place
    (elim c.loop-place.invariant.1 [
      | inl none ↦ omega (arith, none, c.loop-place-test.false)
      | inr most ↦ omega (arith, most, c.loop-place-test.false)
    ])
    )
