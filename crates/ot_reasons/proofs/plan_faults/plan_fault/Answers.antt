use Rattle.std.proofs.Common.{◌∙◌, ap, subst, sym}
use Rattle.std.specs.Prelude.{Option}
use Rattle.serde_json.specs.View.{view}
use Rattle.ot_reasons.specs.declared.plan_faults.PlanRefusal.{PlanRefusal}
use Rattle.ot_reasons.specs.PlanFaults.{kind_in}
use Rattle.ot_reasons.proofs.PlanExact.{exact}
use Rattle.ot_reasons.proofs.PlanUnmet.{UnmetIn, plan-unmet}
use Rattle.ot_reasons.proofs.plan_faults.plan_fault.Goals as goal

pub returns-clause-exact : goal.returns-clause-exact
returns-clause-exact c = ap kind_in c.first_fault.ensures ∙ exact (view c.args.value.now)

pub returns-clause-unmet : goal.returns-clause-unmet
returns-clause-unmet c = subst (λ (o : Option PlanRefusal). UnmetIn (view c.args.value.now) o) (sym c.first_fault.ensures) (plan-unmet (view c.args.value.now))
