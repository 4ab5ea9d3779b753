use Rattle.std.proofs.Common.{◌<◌, ◌∙◌, ap, subst, below_more, arith, length, map}
use Rattle.ot_judge.specs.declared.verdict.Verdict.TheVariants.{Holds, Reversed}
use Rattle.ot_model.specs.Trace.{TraceView}
use Rattle.ot_judge.specs.Views.{trace_view, views}
use Rattle.ot_judge.specs.Verdict.{IsVerdict}
use Rattle.ot_model.specs.WeakList.{WeakListProperty}
use Rattle.ot_judge.proofs.Whole.{trace-is, verdict-fault, verdict-reversed, verdict-none, verdict-both, distinct-lists}
use Rattle.ot_judge.proofs.Views.{length-views}
use Rattle.ot_judge.proofs.decide.judge.Goals as goal

pub returns-in-Some-clause-verdict : goal.returns-in-Some-clause-verdict
returns-in-Some-clause-verdict c =
    let is = trace-is c.trace.inside.replicas _ _ _ _ _ c.as_slice-start.ensures.value c.as_slice-events.ensures.value c.trace.view_is in
    let found = c.in_ok-v.ensures c.loop-e.invariant in
    let within : c.loop-e.e < length (views c.as_slice-events.result.now) = omega (arith, length-views c.as_slice-events.result.now) in
    subst (λ (t : TraceView). IsVerdict t c.in-Some.v) is (verdict-fault (trace_view c.trace.inside.replicas c.as_slice-start.result.now c.as_slice-events.result.now) c.loop-e.e c.in-Some.v within c.loop-e.invariant (rw c.in-Some.is at found))

pub returns-in-Some-clause-property : goal.returns-in-Some-clause-property
returns-in-Some-clause-property c = verdict-both c.args.trace.now c.in-Some.v (returns-in-Some-clause-verdict c)

pub loop-e-preserved : goal.loop-e-preserved
loop-e-preserved c =
    let none = c.in_ok-v.ensures c.loop-e.invariant in
    below_more _ _ c.loop-e.invariant (rw c.in_default.is at none)

pub find_in_order-requires : goal.find_in_order-requires
find_in_order-requires c =
    let same = ap (map (λ w. w.items)) c.as_slice-lists.ensures.value ∙ c.in_ok-all.ensures in
    distinct-lists c.as_slice-lists.result.now c.as_slice-start.result.now (views c.as_slice-events.result.now) same
    (λ e lt. c.loop-e.invariant e (omega (arith, lt, length-views c.as_slice-events.result.now)))

pub returns-in-Some-2-clause-verdict : goal.returns-in-Some-2-clause-verdict
returns-in-Some-2-clause-verdict c =
    let is = trace-is c.trace.inside.replicas _ _ _ _ _ c.as_slice-start.ensures.value c.as_slice-events.ensures.value c.trace.view_is in
    let same = ap (map (λ w. w.items)) c.as_slice-lists.ensures.value ∙ c.in_ok-all.ensures in
    let found = c.in_ok-r.ensures in
    subst (λ (t : TraceView). IsVerdict t (Reversed c.in-Some-2.r.earlier c.in-Some-2.r.later c.in-Some-2.r.a c.in-Some-2.r.b)) is
    (verdict-reversed (trace_view c.trace.inside.replicas c.as_slice-start.result.now c.as_slice-events.result.now) (map (λ w. w.items) c.as_slice-lists.result.now) _ _ _ _
    (λ e lt. c.loop-e.invariant e (omega (arith, lt, length-views c.as_slice-events.result.now))) same (rw c.in-Some-2.is at found))

pub returns-in-Some-2-clause-property : goal.returns-in-Some-2-clause-property
returns-in-Some-2-clause-property c = verdict-both c.args.trace.now (Reversed c.in-Some-2.r.earlier c.in-Some-2.r.later c.in-Some-2.r.a c.in-Some-2.r.b) (returns-in-Some-2-clause-verdict c)

pub returns-clause-verdict : goal.returns-clause-verdict
returns-clause-verdict c =
    let is = trace-is c.trace.inside.replicas _ _ _ _ _ c.as_slice-start.ensures.value c.as_slice-events.ensures.value c.trace.view_is in
    let same = ap (map (λ w. w.items)) c.as_slice-lists.ensures.value ∙ c.in_ok-all.ensures in
    let none = c.in_ok-r.ensures in
    subst (λ (t : TraceView). WeakListProperty t) is
    (verdict-none (trace_view c.trace.inside.replicas c.as_slice-start.result.now c.as_slice-events.result.now) (map (λ w. w.items) c.as_slice-lists.result.now)
    (λ e lt. c.loop-e.invariant e (omega (arith, lt, length-views c.as_slice-events.result.now))) same (rw c.in-None.is at none))

pub returns-clause-property : goal.returns-clause-property
returns-clause-property c = verdict-both c.args.trace.now Holds (returns-clause-verdict c)
