use Rattle.std.proofs.Common.{arith, ◌∙◌, ap, sym, refl}
use Rattle.ot_operation.specs.Operation.{Operation, news}
use Rattle.ot_operation.proofs.RunLemmas.{same_operation}
use Rattle.ot_codes.specs.Shape.{shape, filled}
use Rattle.ot_text.proofs.Parts.{length-news-shape}
use Rattle.ot_isa.specs.Tagging.{tagged_chars}
use Rattle.ot_isa.proofs.TagLists.{length-tagged_chars, tagged_filled}
use Rattle.ot_isa.proofs.tagging.tagged.Goals as goal

pub tagged_text-requires : goal.tagged_text-requires
tagged_text-requires c = rw c.text.ensures (omega (arith, c.requires))

pub from_parts-requires : goal.from_parts-requires
from_parts-requires c =
    let codes = c.in_ok-codes.ensures ∙ c.codes.ensures.value in
    let text = c.in_ok-text.ensures ∙ ap (tagged_chars c.args.origin c.args.first) c.text.ensures in
    rw (codes, text) (length-tagged_chars c.args.origin c.args.first (news c.args.op.now.image) ∙ sym (length-news-shape c.args.op.now))

pub returns : goal.returns
returns c =
    let codes = c.in_ok-codes.ensures ∙ c.codes.ensures.value in
    let text = c.in_ok-text.ensures ∙ ap (tagged_chars c.args.origin c.args.first) c.text.ensures in
    c.from_parts.ensures ∙ ap (λ (o : Operation (Unit {0})). filled o c.in_ok-text.text.items) codes ∙ ap (filled (shape c.args.op.now)) text
    ∙ same_operation _ _ _ _ refl (tagged_filled c.args.origin c.args.first c.args.op.now.image)
