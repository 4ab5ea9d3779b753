use Rattle.std.proofs.Common.{length, ap, ◌∙◌, refl}
use Rattle.std.proofs.lemmas.List.{length-map}
use Rattle.ot_operation.specs.Operation.{news}
use Rattle.ot_codes.specs.Shape.{blank, mapped_item}
use Rattle.ot_codes.proofs.Mapped.{news-mapped, rises-mapped, rises-mapped_back}
use Rattle.ot_codes.proofs.laws.shape_keeps_lengths.Goals as goal

pub returns : goal.returns
returns g c = λ op. (
  (rises-mapped_back blank 0 op.base op.image, rises-mapped blank 0 op.base op.image),
  refl,
  length-map op.image (mapped_item blank),
  ap length (news-mapped blank op.image) ∙ length-map (news op.image) blank,
)
