use Rattle.std.proofs.Common.{sym, ◌∙◌, ap, List, refl}
use Rattle.ot_isa.specs.declared.elements.Tag.{Tag}
use Rattle.ot_model.specs.Trace.{EventView}
use Rattle.ot_judge.specs.Views.{views}
use Rattle.ot_model.specs.WeakList.{required}
use Rattle.ot_judge.specs.Contents.{first_doubled, first_outside, first_misplaced}
use Rattle.ot_judge.proofs.Faults.{event-holds}
use Rattle.ot_judge.proofs.Views.{event_at-views}
use Rattle.ot_judge.proofs.decide.fault_of.Goals as goal

pub returns : goal.returns
returns c =
    let at_e = event_at-views c.args.events.now c.args.e c.index-events-e.result c.requires.within c.index-events-e.is in
    let list_is = ap (λ (x : EventView). x.list) at_e ∙ sym c.as_slice-list.ensures.value in
    let wanted_is = sym c.in_ok-wanted.ensures ∙ sym c.as_slice.ensures.value in
    let wanted_is_2 = sym c.in_ok-wanted.ensures ∙ sym c.as_slice-2.ensures.value in
    event-holds c.args.start.now (views c.args.events.now) c.args.e
    (c.if-not-sees_rightly.ensures.0 refl)
    (ap first_doubled list_is ∙ sym c.in_ok-a.ensures ∙ c.in_default.is)
    (ap (λ (xs : List Tag). first_outside xs (required c.args.start.now (views c.args.events.now) c.args.e)) list_is ∙ ap (first_outside c.as_slice-list.result.now) wanted_is ∙ sym c.in_ok-a-2.ensures ∙ c.in_default-2.is)
    (ap (first_outside (required c.args.start.now (views c.args.events.now) c.args.e)) list_is ∙ ap (λ (xs : List Tag). first_outside xs c.as_slice-list.result.now) wanted_is_2 ∙ sym c.in_ok-a-3.ensures ∙ c.in_default-3.is)
    (ap first_misplaced at_e ∙ sym c.first_misplaced.ensures ∙ c.in_default-first_misplaced.is)

pub returns-in-Some : goal.returns-in-Some
returns-in-Some c =
    let at_e = event_at-views c.args.events.now c.args.e c.index-events-e.result c.requires.within c.index-events-e.is in
    let list_is = ap (λ (x : EventView). x.list) at_e ∙ sym c.as_slice-list.ensures.value in
    (refl, c.if-not-sees_rightly.ensures.0 refl, ap first_doubled list_is ∙ sym c.in_ok-a.ensures ∙ c.in-Some.is)

pub returns-in-Some-2 : goal.returns-in-Some-2
returns-in-Some-2 c =
    let at_e = event_at-views c.args.events.now c.args.e c.index-events-e.result c.requires.within c.index-events-e.is in
    let list_is = ap (λ (x : EventView). x.list) at_e ∙ sym c.as_slice-list.ensures.value in
    let wanted_is = sym c.in_ok-wanted.ensures ∙ sym c.as_slice.ensures.value in
    (refl, c.if-not-sees_rightly.ensures.0 refl, ap first_doubled list_is ∙ sym c.in_ok-a.ensures ∙ c.in_default.is, ap (λ (xs : List Tag). first_outside xs (required c.args.start.now (views c.args.events.now) c.args.e)) list_is ∙ ap (first_outside c.as_slice-list.result.now) wanted_is ∙ sym c.in_ok-a-2.ensures ∙ c.in-Some-2.is)

pub returns-in-Some-3 : goal.returns-in-Some-3
returns-in-Some-3 c =
    let at_e = event_at-views c.args.events.now c.args.e c.index-events-e.result c.requires.within c.index-events-e.is in
    let list_is = ap (λ (x : EventView). x.list) at_e ∙ sym c.as_slice-list.ensures.value in
    let wanted_is = sym c.in_ok-wanted.ensures ∙ sym c.as_slice.ensures.value in
    let wanted_is_2 = sym c.in_ok-wanted.ensures ∙ sym c.as_slice-2.ensures.value in
    (refl, c.if-not-sees_rightly.ensures.0 refl, ap first_doubled list_is ∙ sym c.in_ok-a.ensures ∙ c.in_default.is, ap (λ (xs : List Tag). first_outside xs (required c.args.start.now (views c.args.events.now) c.args.e)) list_is ∙ ap (first_outside c.as_slice-list.result.now) wanted_is ∙ sym c.in_ok-a-2.ensures ∙ c.in_default-2.is, ap (first_outside (required c.args.start.now (views c.args.events.now) c.args.e)) list_is ∙ ap (λ (xs : List Tag). first_outside xs c.as_slice-list.result.now) wanted_is_2 ∙ sym c.in_ok-a-3.ensures ∙ c.in-Some-3.is)

pub returns-in-Some-first_misplaced : goal.returns-in-Some-first_misplaced
returns-in-Some-first_misplaced c =
    let at_e = event_at-views c.args.events.now c.args.e c.index-events-e.result c.requires.within c.index-events-e.is in
    let list_is = ap (λ (x : EventView). x.list) at_e ∙ sym c.as_slice-list.ensures.value in
    let wanted_is = sym c.in_ok-wanted.ensures ∙ sym c.as_slice.ensures.value in
    let wanted_is_2 = sym c.in_ok-wanted.ensures ∙ sym c.as_slice-2.ensures.value in (
      refl,
      c.if-not-sees_rightly.ensures.0 refl,
      ap first_doubled list_is ∙ sym c.in_ok-a.ensures ∙ c.in_default.is,
      ap (λ (xs : List Tag). first_outside xs (required c.args.start.now (views c.args.events.now) c.args.e)) list_is ∙ ap (first_outside c.as_slice-list.result.now) wanted_is ∙ sym c.in_ok-a-2.ensures ∙ c.in_default-2.is,
      ap (first_outside (required c.args.start.now (views c.args.events.now) c.args.e)) list_is ∙ ap (λ (xs : List Tag). first_outside xs c.as_slice-list.result.now) wanted_is_2 ∙ sym c.in_ok-a-3.ensures ∙ c.in_default-3.is,
      ap first_misplaced at_e ∙ sym c.first_misplaced.ensures ∙ c.in-Some-first_misplaced.is,
    )
