use Rattle.std.proofs.Common.{◌∙◌, ap, sym, subst, arith, ◌+◌}
use Rattle.ot_model.specs.Trace.{IsTrace}
use Rattle.ot_model.specs.Table.{start_list}
use Rattle.ot_model.specs.WeakList.{WeakListProperty}
use Rattle.ot_model.specs.Events.{tags}
use Rattle.ot_model.proofs.Traced.{trace_shape, trace_weak, runnable}
use Rattle.ot_check.proofs.Ending.{trace_parts}
use Rattle.ot_check.proofs.traced.whole_trace.Goals as goal

pub from_parts-requires : goal.from_parts-requires
from_parts-requires c =
    let s = c.args.schedule.now in
    let same = trace_parts s (c.clients.result + 1) c.in_ok-start.start.items c.args.noted.items (omega (arith, c.clients.ensures.value)) (c.in_ok-start.ensures ∙ ap tags (c.in_ok-document.ensures.value ∙ ap start_list c.start.ensures)) c.requires in
    subst IsTrace (sym same) (trace_shape s (runnable s c.clients.ensures.limits))

pub returns-clause-holds : goal.returns-clause-holds
returns-clause-holds c =
    let s = c.args.schedule.now in
    let same = trace_parts s (c.clients.result + 1) c.in_ok-start.start.items c.args.noted.items (omega (arith, c.clients.ensures.value)) (c.in_ok-start.ensures ∙ ap tags (c.in_ok-document.ensures.value ∙ ap start_list c.start.ensures)) c.requires in
    subst WeakListProperty (sym (c.from_parts.ensures ∙ same)) (trace_weak s (runnable s c.clients.ensures.limits))
