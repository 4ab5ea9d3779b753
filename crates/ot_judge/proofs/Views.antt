-- The events of the code and their views.
use Rattle.std.proofs.Common.{◌≡◌, ℕ, ◌+◌, ◌<◌, ◌≤◌, List, length, get_or, take, ap, sym, ◌∙◌, cond, arith, ◌∷◌, [], ◌++◌}
use Rattle.std.specs.List.{flat_map}
use Rattle.std.proofs.lemmas.List.{take_more, map-append, flat_map_more}
use Rattle.ot_isa.specs.declared.elements.Tag.{Tag}
use Rattle.std.proofs.lemmas.List.{get_or-map, length-map, length-take}
use Rattle.std.proofs.lemmas.List.Sums.{count_by-le-length, sum_by_more}
use Rattle.ot_judge.specs.declared.trace.Event.{Event}
use Rattle.ot_judge.specs.Views.{event_view, views}
use Rattle.ot_model.specs.Trace.{event_at, no_event, EventView, inserted_tags}
use Rattle.ot_model.specs.Visibility.{edits_before, is_edit_of}

pub length-views : (events : List Event) → length (views events) ≡ length events
length-views events = length-map events event_view

-- the event that the code reads at a place
pub event_at-views : (events : List Event) (e : ℕ) (x : Event) → e < length events → x ≡ get_or events e x → event_at (views events) e ≡ event_view x
event_at-views events e x lt is = get_or-map event_view events e x no_event lt ∙ ap event_view (sym is)

-- one more event counted
pub edits_before-more : (events : List Event) (e r : ℕ) (x : Event) → e < length events → x ≡ get_or events e x → edits_before (views events) (e + 1) r ≡ edits_before (views events) e r + cond (is_edit_of r (event_view x)) 1 0
edits_before-more events e r x lt is =
    let within : e < length (views events) = omega (arith, length-views events) in
    sum_by_more (λ y. cond (is_edit_of r y) 1 0) (views events) e no_event within ∙ ap (λ y. edits_before (views events) e r + cond (is_edit_of r y) 1 0) (event_at-views events e x lt is)

-- fewer edits than events
pub edits_before-le : (events : List Event) (e r : ℕ) → e ≤ length events → edits_before (views events) e r ≤ e
edits_before-le events e r le = omega (arith, le, count_by-le-length (is_edit_of r) (take e (views events)), length-take e (views events), length-views events)

pub ruleset view_steps = (edits_before-more, event_at-views)

pub views-push : (events new : List Event) (x : Event) → new ≡ events ++ x ∷ [] → views new ≡ views events ++ event_view x ∷ []
views-push events new x is = ap views is ∙ map-append event_view events (x ∷ [])

-- one more event viewed
pub views-more : (events : List Event) (i : ℕ) (x : Event) → i < length events → x ≡ get_or events i x → views (take (i + 1) events) ≡ views (take i events) ++ event_view x ∷ []
views-more events i x lt is = ap views (take_more events i x lt) ∙ map-append event_view (take i events) (get_or events i x ∷ []) ∙ ap (λ (y : Event). views (take i events) ++ event_view y ∷ []) (sym is)

pub tags-more : (start tags new : List Tag) (events : List Event) (i : ℕ) (x : Event) → i < length events → x ≡ get_or events i x → tags ≡ start ++ flat_map inserted_tags (views (take i events)) → new ≡ tags ++ inserted_tags (event_view x) → new ≡ start ++ flat_map inserted_tags (views (take (i + 1) events))
tags-more start tags new events i x lt is before more =
    more ∙ ap (λ (xs : List Tag). xs ++ inserted_tags (event_view x)) before ∙ flat_map_more inserted_tags start (views (take i events)) (event_view x) ∙ ap (λ (xs : List EventView). start ++ flat_map inserted_tags xs) (sym (views-more events i x lt is))
