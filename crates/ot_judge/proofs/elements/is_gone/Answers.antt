use Rattle.std.proofs.Common.{◌<◌, ◌∙◌, ℕ, List, sym, arith, inl, inr, length, subst}
use Rattle.std.specs.List.{Contains}
use Rattle.ot_judge.specs.Views.{views}
use Rattle.ot_model.specs.WeakList.{knows}
use Rattle.ot_judge.proofs.Deleters.{all-unknown, at-contains, gone-here, gone-nowhere, is-element, others-within}
use Rattle.ot_judge.proofs.Views.{length-views}
use Rattle.ot_judge.proofs.elements.is_gone.Goals as goal

pub knows-requires-clause-other : goal.knows-requires-clause-other
knows-requires-clause-other c = c.requires.deleters.within c.in-Some.d (inl c.in-Some.is)

pub bounds-numbers-d : goal.bounds-numbers-d
bounds-numbers-d c = omega (arith, c.requires.deleters.within c.in-Some.d (inl c.in-Some.is), c.requires.numbered.long, length-views c.args.events.now)

pub offset_bounds-numbers-d : goal.offset_bounds-numbers-d
offset_bounds-numbers-d c = omega (arith, c.requires.deleters.within c.in-Some.d (inl c.in-Some.is), c.requires.numbered.long, length-views c.args.events.now)

pub knows-requires-clause-counted : goal.knows-requires-clause-counted
knows-requires-clause-counted c =
    c.requires.numbered.each c.in-Some.d (omega (arith, c.requires.deleters.within c.in-Some.d (inl c.in-Some.is), length-views c.args.events.now))

pub returns-then-knows : goal.returns-then-knows
returns-then-knows c = λ visible.
    gone-here (views c.args.events.now) c.args.e c.in-Some.d c.args.x.now (is-element c.args.events.now c.args.x.now c.requires.deleters) (inl c.in-Some.is) (sym c.knows.ensures ∙ c.if-knows.true)

pub find_deleter-requires : goal.find_deleter-requires
find_deleter-requires c = others-within c.args.x.now c.as_slice.result.now _ c.as_slice.ensures.value c.requires.deleters.within

pub returns-then-knows-2 : goal.returns-then-knows-2
returns-then-knows-2 c = λ visible.
    let noted = subst (λ (ks : List ℕ). Contains ks c.in-Ok.d) c.as_slice.ensures.value c.in-Ok.ensures.found.0 in
    gone-here (views c.args.events.now) c.args.e c.in-Ok.d c.args.x.now (is-element c.args.events.now c.args.x.now c.requires.deleters) (inr noted) (sym c.knows-in-Ok.ensures ∙ c.if-knows-2.true)

pub knows-requires-in-loop-d-clause-other : goal.knows-requires-in-loop-d-clause-other
knows-requires-in-loop-d-clause-other c = c.requires.deleters.within _ (inr (at-contains c.args.x.now.others.items c.deref-d-items.result.now c.loop-d.d-index c.deref-d-items.ensures.value c.loop-d-test.true))

pub bounds-numbers-d-in-loop-d : goal.bounds-numbers-d-in-loop-d
bounds-numbers-d-in-loop-d c =
    let noted = at-contains c.args.x.now.others.items c.deref-d-items.result.now c.loop-d.d-index c.deref-d-items.ensures.value c.loop-d-test.true in
    omega (arith, c.requires.deleters.within _ (inr noted), c.requires.numbered.long, length-views c.args.events.now)

pub offset_bounds-numbers-d-in-loop-d : goal.offset_bounds-numbers-d-in-loop-d
offset_bounds-numbers-d-in-loop-d c =
    let noted = at-contains c.args.x.now.others.items c.deref-d-items.result.now c.loop-d.d-index c.deref-d-items.ensures.value c.loop-d-test.true in
    omega (arith, c.requires.deleters.within _ (inr noted), c.requires.numbered.long, length-views c.args.events.now)

pub knows-requires-in-loop-d-clause-counted : goal.knows-requires-in-loop-d-clause-counted
knows-requires-in-loop-d-clause-counted c =
    let noted = at-contains c.args.x.now.others.items c.deref-d-items.result.now c.loop-d.d-index c.deref-d-items.ensures.value c.loop-d-test.true in
    c.requires.numbered.each _ (omega (arith, c.requires.deleters.within _ (inr noted), length-views c.args.events.now))

pub returns-then-knows-3 : goal.returns-then-knows-3
returns-then-knows-3 c = λ visible.
    gone-here (views c.args.events.now) c.args.e _ c.args.x.now (is-element c.args.events.now c.args.x.now c.requires.deleters) (inr (at-contains c.args.x.now.others.items c.deref-d-items.result.now c.loop-d.d-index c.deref-d-items.ensures.value c.loop-d-test.true)) (sym c.knows-in-loop-d.ensures ∙ c.if-knows-3.true)

pub returns : goal.returns
returns c =
    let within : c.args.e < length (views c.args.events.now) = omega (arith, c.requires.within, length-views c.args.events.now) in
    gone-nowhere (views c.args.events.now) c.args.e c.args.x.now within c.requires.reads (is-element c.args.events.now c.args.x.now c.requires.deleters)
    (all-unknown (knows (views c.args.events.now) c.args.e) c.args.x.now c.loop-d.d-index (omega arith) c.loop-d.invariant.first c.loop-d.invariant.others)
