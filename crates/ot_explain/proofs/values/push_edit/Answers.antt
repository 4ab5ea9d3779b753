use Rattle.std.proofs.Common.{◌∙◌, ◌++◌, ap, sym, string_bytes, List, ℕ}
use Rattle.std.proofs.lemmas.Result.{on_ok_weaker}
use Rattle.ot_explain.proofs.Sizes.{by_size, whole}
use Rattle.ot_explain.proofs.values.push_edit.Goals as goal

pub returns-then-is_short : goal.returns-then-is_short
returns-then-is_short c =
    let old = string_bytes c.args.text.now in
    on_ok_weaker c.push_array.result (λ e. e ∙ ap (λ (t : List ℕ). old ++ t) (whole c.args.op.now (sym c.is_short.ensures ∙ c.if-is_short.true))) c.push_array.ensures

pub returns : goal.returns
returns c =
    let old = string_bytes c.args.text.now in
    on_ok_weaker c.push_size.result
    (λ e. e ∙ ap (λ (t : List ℕ). old ++ t) (by_size c.args.op.now c.component_count.result c.base_len.result c.target_len.result (sym c.is_short.ensures ∙ c.if-is_short.false)
    c.component_count.ensures.value c.base_len.ensures.value c.target_len.ensures.value)) c.push_size.ensures
