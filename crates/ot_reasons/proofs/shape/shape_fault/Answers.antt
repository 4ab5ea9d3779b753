use Rattle.std.proofs.Common.{◌∙◌, ap, subst, sym}
use Rattle.std.specs.Prelude.{Option, is_none}
use Rattle.serde_json.specs.View.{view}
use Rattle.ot_reasons.specs.declared.place.Fault.{Fault}
use Rattle.ot_reasons.proofs.Exact.{exact}
use Rattle.ot_reasons.proofs.Unmet.{Unmet, unmet}
use Rattle.ot_reasons.proofs.shape.shape_fault.Goals as goal

pub returns-clause-exact : goal.returns-clause-exact
returns-clause-exact c = ap (λ o. is_none o) c.trace_fault.ensures ∙ exact (view c.args.value.now)

pub returns-clause-unmet : goal.returns-clause-unmet
returns-clause-unmet c = subst (λ (o : Option Fault). Unmet (view c.args.value.now) o) (sym c.trace_fault.ensures) (unmet (view c.args.value.now))
