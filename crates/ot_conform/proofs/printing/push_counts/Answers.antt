use Rattle.std.proofs.Common.{◌+◌, ◌++◌, ◌∙◌, List, ℕ, drop, sym, ap, append-nil, append_assoc, arith, string_bytes}
use Rattle.ot_conform.specs.Answers.{counts_text}
use Rattle.ot_conform.specs.Counted.{counted_keys}
use Rattle.ot_conform.proofs.Places.{text_done, text_next}
use Rattle.ot_conform.proofs.printing.push_counts.Goals as goal

pub returns : goal.returns
returns c =
    let text = string_bytes c.loop-place.text in
    sym (append-nil text)
    ∙ ap (λ (more : List ℕ). text ++ more) (sym (text_done counted_keys c.args.counts.now.values c.loop-place.place (omega (arith, c.loop-place-test.false))))
    ∙ c.loop-place.invariant

pub loop-place-preserved : goal.loop-place-preserved
loop-place-preserved c =
    let counts = c.args.counts.now.values in
    let place = c.loop-place.place in
    let rest = counts_text (drop (place + 1) counted_keys) (drop (place + 1) counts) in
    ap (λ (text : List ℕ). text ++ rest) c.in_ok-push_count.ensures
    ∙ append_assoc (string_bytes c.loop-place.text) _ rest
    ∙ ap (λ (more : List ℕ). string_bytes c.loop-place.text ++ more) (sym (text_next counted_keys counts place _ _ c.loop-place-test.true (omega (arith, c.loop-place-test.true, c.type_inv.counts))))
    ∙ c.loop-place.invariant
