use Rattle.std.proofs.Common.{◌∙◌, Bool}
use Rattle.serde_json.specs.View.{view}
use Rattle.ot_conform.specs.Counted.{counted_keys, tells}
use Rattle.ot_steps.specs.declared.key.Key.{Key}
use Rattle.ot_conform.proofs.Places.{count_next}
use Rattle.ot_conform.proofs.counts.Counts.with_line.Goals as goal

pub loop-place-preserved : goal.loop-place-preserved
loop-place-preserved c =
    let told : Key → Bool = λ (k : Key). tells k (view c.args.line.now) in
    rw (c.one_more.ensures, c.tells.ensures)
    (c.loop-place.invariant ∙ count_next told counted_keys c.loop-place.self.values c.loop-place.place _ _ c.loop-place-test.true)
