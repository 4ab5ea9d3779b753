use Rattle.std.proofs.Common.{◌∙◌, ◌^◌, ◌-◌, List, ap, min, sym}
use Rattle.ot_plan.specs.Typing.{Action}
use Rattle.ot_reasons.specs.PlanWords.{action_count}
use Rattle.ot_reasons.proofs.PlanExact.{few-actions}
use Rattle.ot_reasons.proofs.plan_words.actions_of.Goals as goal

pub returns : goal.returns
returns c =
    c.action_count.ensures ∙ ap (λ (rows : List (List Action)). min (action_count rows) (2 ^ 64 - 1)) c.typing.ensures
    ∙ sym (few-actions c.args.plan.now c.clients-limits.ensures.limits)
