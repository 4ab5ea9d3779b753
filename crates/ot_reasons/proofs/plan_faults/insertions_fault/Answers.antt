use Rattle.std.proofs.Common.{◌∙◌}
use Rattle.serde_json.specs.View.{view}
use Rattle.ot_plan.specs.Reading.{is_short, row_of}
use Rattle.ot_reasons.specs.declared.place.Wanted.TheVariants as wanted
use Rattle.ot_reasons.specs.Faults.{unless}
use Rattle.ot_reasons.proofs.PlanExact.{surveyed-short, unsurveyed}
use Rattle.ot_reasons.proofs.plan_faults.insertions_fault.Goals as goal

pub returns-in-Some : goal.returns-in-Some
returns-in-Some c = c.unless.ensures ∙ surveyed-short (row_of (view c.args.value.now)) c.in-Some.actions c.args.place c.in-Some.ensures

pub returns-in-None : goal.returns-in-None
returns-in-None c = unsurveyed (row_of (view c.args.value.now)) (λ actions. unless (is_short actions) c.args.place wanted.Insertions) c.in-None.ensures
