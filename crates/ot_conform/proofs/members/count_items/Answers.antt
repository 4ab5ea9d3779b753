use Rattle.std.proofs.Common.{◌∙◌, ◌+◌, List, ℕ, drop, sym, ap, arith, string_bytes}
use Rattle.ot_conform.specs.Counted.{counted_keys}
use Rattle.ot_conform.specs.Json.{count_items}
use Rattle.ot_values.specs.Items.{with_item, with_items}
use Rattle.ot_conform.proofs.Places.{items_done, items_next}
use Rattle.ot_conform.proofs.members.count_items.Goals as goal

pub returns : goal.returns
returns c =
    sym (ap (with_items (string_bytes c.loop-place.items)) (items_done counted_keys c.args.counts.now.values c.loop-place.place (omega (arith, c.loop-place-test.false))))
    ∙ c.loop-place.invariant

pub loop-place-preserved : goal.loop-place-preserved
loop-place-preserved c =
    let counts = c.args.counts.now.values in
    let place = c.loop-place.place in
    let rest = count_items (drop (place + 1) counted_keys) (drop (place + 1) counts) in
    ap (λ (text : List ℕ). with_items text rest) (c.in_ok-push_item.ensures ∙ ap (with_item (string_bytes c.loop-place.items)) (c.as_str.ensures.value ∙ c.in_ok-item.ensures))
    ∙ ap (with_items (string_bytes c.loop-place.items)) (sym (items_next counted_keys counts place _ _ c.loop-place-test.true (omega (arith, c.loop-place-test.true, c.type_inv.counts))))
    ∙ c.loop-place.invariant
