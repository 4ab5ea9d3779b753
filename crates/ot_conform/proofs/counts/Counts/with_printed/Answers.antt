use Rattle.std.proofs.Common.{◌∙◌, Bool}
use Rattle.ot_steps.specs.Held.{printed_of}
use Rattle.ot_conform.specs.Counted.{counted_keys, has}
use Rattle.ot_steps.specs.declared.key.Key.{Key}
use Rattle.ot_conform.proofs.Places.{count_next}
use Rattle.ot_conform.proofs.counts.Counts.with_printed.Goals as goal

pub loop-place-preserved : goal.loop-place-preserved
loop-place-preserved c =
    let told : Key → Bool = λ (k : Key). has k (printed_of c.args.documents c.args.line.now) in
    rw (c.one_more.ensures, c.has.ensures)
    (c.loop-place.invariant ∙ count_next told counted_keys c.loop-place.self.values c.loop-place.place _ _ c.loop-place-test.true)
