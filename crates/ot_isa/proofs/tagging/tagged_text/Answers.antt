use Rattle.std.proofs.Common.{◌≡◌, ◌+◌, ◌∷◌, ◌++◌, [], take, length, arith, refl, ◌∙◌, add-one}
use Rattle.std.proofs.lemmas.List.{length-take}
use Rattle.ot_isa.proofs.Lists.{take_more}
use Rattle.ot_isa.proofs.TagLists.{tagged_chars-append}
use Rattle.ot_isa.proofs.tagging.tagged_text.Goals as goal

pub loop-ch-preserved : goal.loop-ch-preserved
loop-ch-preserved c =
    let i = c.loop-ch.ch-index in
    let more : take (i + 1) c.args.text.now ≡ take i c.args.text.now ++ c.ch-item.result ∷ [] = rw add-one (take_more c.args.text.now i c.ch-item.result c.loop-ch-test.true c.ch-item.is) in
    let count : c.loop-ch.serial ≡ c.args.first + length (take i c.args.text.now) = omega (arith, c.loop-ch.invariant.serial_is, length-take i c.args.text.now, c.loop-ch-test.true) in
    record {
      made = c.in_ok-push.ensures.items ∙ rw (more, tagged_chars-append c.args.origin c.args.first (take i c.args.text.now) (c.ch-item.result ∷ []), ← count, c.loop-ch.invariant.made) refl;
      serial_is = omega (arith, c.loop-ch.invariant.serial_is);
    }
