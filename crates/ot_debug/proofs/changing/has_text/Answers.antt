use Rattle.std.proofs.Common.{◌∙◌, sym}
use Rattle.std.proofs.lemmas.Option.{slice_get-get_or}
use Rattle.ot_debug.proofs.Compared.{text_more, text_not}
use Rattle.ot_debug.proofs.changing.has_text.Goals as goal

pub returns-then-not-is_same : goal.returns-then-not-is_same
returns-then-not-is_same c = (
  λ k. absurd (cc k),
  λ e.
      absurd (text_not c.args.list.now c.args.text.now c.args.to c.loop-place.place c.loop-place-test.true
      (λ f. let t = c.is_same.ensures.1 (c.get.ensures ∙ f ∙ slice_get-get_or c.args.text.now c.loop-place.place _ c.loop-place-test.true) in let u = c.if-not-is_same.true in cc) e),
)

pub loop-place-preserved : goal.loop-place-preserved
loop-place-preserved c =
    text_more c.args.list.now c.args.text.now c.args.to c.loop-place.place c.loop-place.invariant (sym c.get.ensures ∙ c.is_same.ensures.0 c.if-not-is_same.false ∙ sym (slice_get-get_or c.args.text.now c.loop-place.place _ c.loop-place-test.true))
