use Rattle.ot_image.proofs.FieldSteps.{same_shape}
use Rattle.ot_image.proofs.named_operations.longer.Goals as goal

pub returns-clause-value : goal.returns-clause-value
returns-clause-value c = same_shape c.args.code _ _ _ _ c.base_after-base.ensures.value c.target_after-target.ensures.value
