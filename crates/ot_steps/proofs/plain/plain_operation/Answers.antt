use Rattle.std.proofs.Common.{◌∙◌, ap, length, sym, ℕ, List}
use Rattle.ot_codes.specs.Shape.{filled}
use Rattle.ot_operation.specs.Operation.{news}
use Rattle.ot_isa.specs.Tagging.{chars_of}
use Rattle.ot_steps.proofs.Untagging.{as_many, filled_plain}
use Rattle.ot_steps.proofs.plain.plain_operation.Goals as goal

pub from_parts-requires : goal.from_parts-requires
from_parts-requires c =
    ap length (c.in_ok-text.ensures ∙ ap chars_of c.text.ensures) ∙ as_many c.args.op.now.image
    ∙ ap (λ op. length (news op.image)) (sym (c.in_ok-codes.ensures ∙ c.codes.ensures.value))

pub returns : goal.returns
returns c =
    c.from_parts.ensures
    ∙ ap (λ (text : List ℕ). filled c.in_ok-codes.codes text) (c.in_ok-text.ensures ∙ ap chars_of c.text.ensures)
    ∙ ap (λ op. filled op (chars_of (news c.args.op.now.image))) (c.in_ok-codes.ensures ∙ c.codes.ensures.value)
    ∙ filled_plain c.args.op.now
