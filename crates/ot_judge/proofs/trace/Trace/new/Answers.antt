use Rattle.std.proofs.Common.{subst, List}
use Rattle.ot_isa.specs.declared.elements.Tag.{Tag}
use Rattle.ot_judge.specs.declared.trace.Event.{Event}
use Rattle.ot_model.specs.Trace.{IsTrace}
use Rattle.ot_judge.specs.Views.{trace_view}
use Rattle.ot_judge.proofs.Making.{IsTrace-trace_from}
use Rattle.ot_judge.proofs.trace.Trace.new.Goals as goal

pub invariant_of-result : goal.invariant_of-result
invariant_of-result c =
    let made = IsTrace-trace_from _ _ c.in-Ok.ensures.ok in
    subst (λ (ts : List Tag). IsTrace (trace_view c.args.replicas ts c.args.events.items)) c.as_slice.ensures.value
    (subst (λ (es : List Event). IsTrace (trace_view c.args.replicas c.as_slice.result.now es)) c.as_slice-2.ensures.value made)
