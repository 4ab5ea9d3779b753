use Rattle.std.proofs.Common.{◌∙◌, ◌++◌, ap, sym, string_bytes, List, ℕ}
use Rattle.std.proofs.lemmas.List.{length-map}
use Rattle.std.proofs.lemmas.Result.{on_ok_weaker}
use Rattle.ot_steps.specs.Lines.{plain_item, plain_operation}
use Rattle.ot_explain.proofs.Sizes.{by_size, components_plain, short_plain, whole}
use Rattle.ot_explain.proofs.values.push_operation.Goals as goal

pub returns-then-is_short : goal.returns-then-is_short
returns-then-is_short c =
    let old = string_bytes c.args.text.now in
    let op = c.args.op.now in
    on_ok_weaker c.push_plain_array.result (λ e. e ∙ ap (λ (t : List ℕ). old ++ t) (whole (plain_operation op) (short_plain op ∙ sym c.is_short.ensures ∙ c.if-is_short.true))) c.push_plain_array.ensures

pub returns : goal.returns
returns c =
    let old = string_bytes c.args.text.now in
    let op = c.args.op.now in
    on_ok_weaker c.push_size.result
    (λ e. e ∙ ap (λ (t : List ℕ). old ++ t) (by_size (plain_operation op) c.component_count.result c.base_len.result c.target_len.result (short_plain op ∙ sym c.is_short.ensures ∙ c.if-is_short.false)
    (c.component_count.ensures.value ∙ sym (components_plain op)) c.base_len.ensures.value (c.target_len.ensures.value ∙ sym (length-map op.image plain_item)))) c.push_size.ensures
