use Rattle.std.proofs.Common.{◌∙◌, ◌++◌, ap, string_bytes, List, ℕ}
use Rattle.ot_steps.proofs.Texts.{on_ok}
use Rattle.ot_steps.proofs.Untagging.{char_text}
use Rattle.ot_steps.proofs.value.push_array.Goals as goal

pub returns : goal.returns
returns c =
    on_ok c.push_components.result
    (λ text. text ∙ ap (λ (t : List ℕ). string_bytes c.args.text.now ++ t) (char_text c.components.result c.args.op.now c.components.ensures.normal c.components.ensures.spells))
    c.push_components.ensures
