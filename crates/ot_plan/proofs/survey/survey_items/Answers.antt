use Rattle.std.proofs.Common.{arith}
use Rattle.ot_plan.proofs.Surveyed.{row-counted}
use Rattle.ot_plan.proofs.survey.survey_items.Goals as goal

pub returns : goal.returns
returns c = row-counted c.args.items.now c.loop-value.value-index c.loop-value.inserted c.loop-value.in_range (omega arith) c.loop-value.invariant.small c.loop-value.invariant.left
