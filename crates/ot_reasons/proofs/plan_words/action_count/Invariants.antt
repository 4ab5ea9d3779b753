use Rattle.std.proofs.Common.{◌≡◌, take, ◌^◌, ◌-◌, min}
use Rattle.ot_plan.specs.Typing.{typing_view}
use Rattle.ot_reasons.specs.PlanWords.{action_count}
use Rattle.ot_reasons.proofs.plan_words.action_count.Given as goal

abbrev pub invariant-loop-row : goal.invariant-loop-row
invariant-loop-row l = l.count ≡ min (action_count (typing_view (take l.row-index l.rows))) (2 ^ 64 - 1)
