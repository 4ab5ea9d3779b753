use Rattle.std.proofs.Common.{◌∙◌, sym}
use Rattle.std.proofs.lemmas.Result.{IfOk-weaker}
use Rattle.serde_json.specs.View.{view}
use Rattle.ot_reasons.proofs.PlanExact.{kind-refused, none-refused}
use Rattle.ot_reasons.proofs.plan_words.value_reason.Goals as goal

pub returns : goal.returns
returns c =
    let some = sym c.in-Some.is ∙ c.plan_fault.ensures.first in
    IfOk-weaker c.fault_text.result _ _ (λ s words. (c.in-Some.refusal, sym some, kind-refused (view c.args.value.now) c.in-Some.refusal c.args.fault some c.requires, words)) c.fault_text.ensures

pub unreachable-requires : goal.unreachable-requires
unreachable-requires c = none-refused (view c.args.value.now) c.args.fault (sym c.in-None.is ∙ c.plan_fault.ensures.first) c.requires
