use Rattle.std.proofs.Common.{◌∙◌}
use Rattle.ot_every.proofs.Lettering.{even_next, letters_next}
use Rattle.ot_every.proofs.edits.letters.Goals as goal

pub loop-place-preserved : goal.loop-place-preserved
loop-place-preserved c = record {
  letters = c.in_ok-push.ensures.items
      ∙ letters_next c.args.edit c.loop-place.place c.letter.result c.loop-place.text.items c.loop-place.is_small c.loop-place.invariant.letters c.loop-place.invariant.even c.letter.ensures;
  even = even_next c.loop-place.place c.loop-place.is_small c.loop-place.invariant.even;
}
