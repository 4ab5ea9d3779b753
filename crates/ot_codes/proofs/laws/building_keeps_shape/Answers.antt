use Rattle.std.proofs.Common.{◌++◌, ap, ◌∙◌, refl, map, append-nil}
use Rattle.ot_operation.specs.Operation.{New, news, olds}
use Rattle.ot_codes.specs.Shape.{blank}
use Rattle.ot_codes.proofs.Mapped.{retain-mapped, insert-mapped}
use Rattle.ot_codes.proofs.Filled.{news_append, news_olds, news_texts}
use Rattle.ot_codes.proofs.laws.building_keeps_shape.Goals as goal

pub returns : goal.returns
returns g c = λ op count text. (
  retain-mapped blank op count,
  news_append op.image (olds op.base count) ∙ ap (λ rest. news op.image ++ rest) (news_olds _ op.base count) ∙ append-nil (news op.image),
  insert-mapped blank op text,
  news_append op.image (map New text) ∙ ap (λ rest. news op.image ++ rest) (news_texts text),
  refl,
  refl,
)
