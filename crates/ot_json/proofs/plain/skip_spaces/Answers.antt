use Rattle.std.proofs.Common.{◌++◌, ◌∷◌, ap, ◌∙◌}
use Rattle.ot_json.proofs.PlainText.{gap_more}
use Rattle.ot_json.proofs.plain.skip_spaces.Goals as goal

pub loop-byte-preserved : goal.loop-byte-preserved
loop-byte-preserved c =
    let so_far = c.loop-byte.invariant in
    let below = c.in-Some.below.now in
    gap_more c.args.bytes.now so_far.0 below so_far.1 (so_far.2 ∙ ap (λ l. so_far.0 ++ l) (c.in-Some.ensures.cases.0 ∙ ap (λ b. b ∷ below) c.if-byte-ne32.false))
