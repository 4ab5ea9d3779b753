use Rattle.std.proofs.Common.{◌∙◌, sym}
use Rattle.ot_debug.proofs.Compared.{repeats_more, repeats_not}
use Rattle.ot_debug.proofs.changing.repeats.Goals as goal

pub returns-then-not-is_same : goal.returns-then-not-is_same
returns-then-not-is_same c = (
  λ k. absurd (cc k),
  λ e.
      absurd (repeats_not c.args.list.now c.args.from c.args.to c.loop-place.place c.args.count c.loop-place-test.true
      (λ f. let t = c.is_same.ensures.1 (c.get.ensures ∙ f ∙ sym c.get-in-loop-place.ensures) in let u = c.if-not-is_same.true in cc) e),
)

pub loop-place-preserved : goal.loop-place-preserved
loop-place-preserved c =
    repeats_more c.args.list.now c.args.from c.args.to c.loop-place.place c.args.count c.loop-place.invariant (sym c.get.ensures ∙ c.is_same.ensures.0 c.if-not-is_same.false ∙ c.get-in-loop-place.ensures)
