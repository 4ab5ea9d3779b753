-- What the first fault of an event says of the clauses of the property.
use Rattle.std.proofs.Common.{◌≡◌, ℕ, ◌≤◌, List, [], ◌∷◌, ap, sym, ◌∙◌, cond, arith, refl, Bool, true, false, not, ◌||◌, inl, inr}
use Rattle.std.specs.Prelude.{Option, Some, None, find, nat_lt, All, slice_get}
use Rattle.std.specs.Option.{option_map, option_map_or}
use Rattle.std.proofs.lemmas.Bool.{cases_Bool, ltb-false, ltb-true, not-true, not-false, both_ways, or_left, or_right}
use Rattle.std.proofs.lemmas.List.Sums.{sum_by-cons}
use Rattle.std.proofs.lemmas.List.Elements.{All-nil, All-cons, All-head, All-tail}
use Rattle.ot_isa.specs.declared.elements.Tag.{Tag}
use Rattle.ot_model.specs.declared.trace.Placed.{Placed}
use Rattle.ot_judge.specs.declared.verdict.Verdict.{Verdict}
use Rattle.ot_judge.specs.declared.verdict.Verdict.TheVariants.{Holds, BadVisibility, Doubled, Missing, Extra, WrongPlace, Reversed}
use Rattle.ot_model.specs.Trace.{same_tag, contains, occurrences, EventView, TraceView, event_at}
use Rattle.ot_model.specs.Visibility.{SeesRightly}
use Rattle.ot_model.specs.WeakList.{required, EventHolds, WeakListProperty}
use Rattle.ot_judge.specs.Contents.{first_doubled, first_outside, first_misplaced, stands_at_place}
use Rattle.ot_judge.specs.Verdict.{IsFault, IsVerdict}
use Rattle.ot_judge.proofs.TagLemmas.{same_tag-refl, same_tag-true, occurrences-absent}

abbrev number_of : Bool → ℕ
number_of b = cond b 1 0

-- a search that finds nothing, and one that finds something
pub find-none-at : (p : Tag → Bool) (xs : List Tag) (a : Tag) → find p xs ≡ None → contains xs a ≡ true → p a ≡ false
find-none-at p [] a h k = absurd (both_ways false refl k)
find-none-at p (x ∷ xs) a h k = elim (cases_Bool (p x)) [
  | inl passes ↦ absurd (let clash = sym (ap (λ (b : Bool). cond b (Some x) (find p xs)) passes) ∙ h in cc)
  | inr fails ↦
      let rest = sym (ap (λ (b : Bool). cond b (Some x) (find p xs)) fails) ∙ h in
      elim (cases_Bool (same_tag a x)) [
        | inl met ↦ ap p (same_tag-true a x met) ∙ fails
        | inr not_met ↦ find-none-at p xs a rest (sym (ap (λ (b : Bool). b || contains xs a) not_met) ∙ k)
      ]
]

pub find-some : (p : Tag → Bool) (xs : List Tag) (a : Tag) → find p xs ≡ Some a → (p a ≡ true) × (contains xs a ≡ true)
find-some p [] a h = absurd (let clash : None ≡ Some a = h in cc)
find-some p (x ∷ xs) a h = elim (cases_Bool (p x)) [
  | inl passes ↦
      let here = sym (ap (λ (b : Bool). cond b (Some x) (find p xs)) passes) ∙ h in
      let same : x ≡ a = cc here in
      (ap p (sym same) ∙ passes, or_left (same_tag a x) (contains xs a) (ap (λ (y : Tag). same_tag a y) same ∙ same_tag-refl a))
  | inr fails ↦
      let rest = find-some p xs a (sym (ap (λ (b : Bool). cond b (Some x) (find p xs)) fails) ∙ h) in
      (rest.0, or_right (same_tag a x) (contains xs a) rest.1)
]

pub occurrences-present : (a : Tag) (xs : List Tag) → contains xs a ≡ true → 1 ≤ occurrences a xs
occurrences-present a [] h = absurd (both_ways false refl h)
occurrences-present a (x ∷ xs) h = elim (cases_Bool (same_tag a x)) [
  | inl met ↦ omega (arith, sum_by-cons (λ b. cond (same_tag a b) 1 0) x xs, ap number_of met)
  | inr not_met ↦ omega (arith, sum_by-cons (λ b. cond (same_tag a b) 1 0) x xs, occurrences-present a xs (sym (ap (λ (b : Bool). b || contains xs a) not_met) ∙ h))
]

-- none doubled, none missing and none extra: each required tag once, and no other
pub exact-contents : (xs wanted : List Tag) → first_doubled xs ≡ None → first_outside xs wanted ≡ None → first_outside wanted xs ≡ None → (a : Tag) → occurrences a xs ≡ cond (contains wanted a) 1 0
exact-contents xs wanted once complete only a = elim (cases_Bool (contains wanted a)) [
  | inl is_wanted ↦
      let here = not-false (contains xs a) (find-none-at (λ b. not (contains xs b)) wanted a complete is_wanted) in
      let few = ltb-false 1 (occurrences a xs) (find-none-at (λ b. nat_lt 1 (occurrences b xs)) xs a once here) in
      omega (arith, few, occurrences-present a xs here, ap number_of is_wanted)
  | inr not_wanted ↦
      elim (cases_Bool (contains xs a)) [
        | inl here ↦ absurd (both_ways (contains wanted a) not_wanted (not-false (contains wanted a) (find-none-at (λ b. not (contains wanted b)) xs a only here)))
        | inr gone ↦ omega (arith, occurrences-absent a xs gone, ap number_of not_wanted)
      ]
]

placed_from : (o : Option Tag) (a : Tag) → option_map_or (same_tag a) o false ≡ true → o ≡ Some a
placed_from None a h = absurd (both_ways false refl h)
placed_from (Some b) a h = ap (λ (t : Tag). Some t) (sym (same_tag-true a b h))

placed_to : (o : Option Tag) (a : Tag) → o ≡ Some a → option_map_or (same_tag a) o false ≡ true
placed_to o a h = ap (λ (u : Option Tag). option_map_or (same_tag a) u false) h ∙ same_tag-refl a

abbrev tag_of : Placed → Tag
tag_of p = p.tag

-- each inserted element stands at its place where none is found that does not
pub exact-places : (list : List Tag) (inserted : List Placed) → option_map tag_of (find (λ p. not (stands_at_place list p)) inserted) ≡ None → All (λ (p : Placed). slice_get list p.place ≡ Some p.tag) inserted
exact-places list [] h = All-nil (λ (p : Placed). slice_get list p.place ≡ Some p.tag)
exact-places list (x ∷ xs) h = elim (cases_Bool (stands_at_place list x)) [
  | inl stands ↦
      let rest = sym (ap (λ (b : Bool). option_map tag_of (cond (not b) (Some x) (find (λ p. not (stands_at_place list p)) xs))) stands) ∙ h in
      All-cons (λ (p : Placed). slice_get list p.place ≡ Some p.tag) x xs (placed_from (slice_get list x.place) x.tag stands) (exact-places list xs rest)
  | inr fails ↦ absurd (let clash = sym (ap (λ (b : Bool). option_map tag_of (cond (not b) (Some x) (find (λ p. not (stands_at_place list p)) xs))) fails) ∙ h in cc)
]

pub misplaced-none : (list : List Tag) (inserted : List Placed) → All (λ (p : Placed). slice_get list p.place ≡ Some p.tag) inserted → option_map tag_of (find (λ p. not (stands_at_place list p)) inserted) ≡ None
misplaced-none list [] h = refl
misplaced-none list (x ∷ xs) h =
    let stands = placed_to (slice_get list x.place) x.tag (All-head (λ (p : Placed). slice_get list p.place ≡ Some p.tag) x xs h) in
    ap (λ (b : Bool). option_map tag_of (cond (not b) (Some x) (find (λ p. not (stands_at_place list p)) xs))) stands ∙ misplaced-none list xs (All-tail (λ (p : Placed). slice_get list p.place ≡ Some p.tag) x xs h)

pub event-holds : (start : List Tag) (events : List EventView) (e : ℕ) → SeesRightly events e → first_doubled (event_at events e).list ≡ None → first_outside (event_at events e).list (required start events e) ≡ None → first_outside (required start events e) (event_at events e).list ≡ None → first_misplaced (event_at events e) ≡ None → EventHolds start events e
event-holds start events e visible once complete only places = record {
  visibility = visible;
  contents = exact-contents (event_at events e).list (required start events e) once complete only;
  places = exact-places (event_at events e).list (event_at events e).inserted places;
}

-- an event with a fault does not hold
pub fault-breaks : (start : List Tag) (events : List EventView) (e : ℕ) (v : Verdict) → IsFault start events e v → ¬ EventHolds start events e
fault-breaks start events e (BadVisibility n) f h = f.1 h.visibility
fault-breaks start events e (Doubled n a) f h =
    let found = find-some (λ b. nat_lt 1 (occurrences b (event_at events e).list)) (event_at events e).list a f.2 in
    let many = ltb-true 1 (occurrences a (event_at events e).list) found.0 in
    elim (cases_Bool (contains (required start events e) a)) [
      | inl b ↦ omega (arith, many, h.contents a, ap number_of b)
      | inr b ↦ omega (arith, many, h.contents a, ap number_of b)
    ]
fault-breaks start events e (Missing n a) f h =
    let found = find-some (λ b. not (contains (event_at events e).list b)) (required start events e) a f.3 in
    let gone = occurrences-absent a (event_at events e).list (not-true (contains (event_at events e).list a) found.0) in
    omega (arith, gone, h.contents a, ap number_of found.1)
fault-breaks start events e (Extra n a) f h =
    let found = find-some (λ b. not (contains (required start events e) b)) (event_at events e).list a f.4 in
    let here = occurrences-present a (event_at events e).list found.1 in
    omega (arith, here, h.contents a, ap number_of (not-true (contains (required start events e) a) found.0))
fault-breaks start events e (WrongPlace n a) f h =
    let none = misplaced-none (event_at events e).list (event_at events e).inserted h.places in
    let clash = sym none ∙ f.5 in
    cc
fault-breaks start events e Holds f h = f
fault-breaks start events e (Reversed d n a b) f h = f

-- only one verdict is right for a trace with the property
pub verdict-Holds : (t : TraceView) (v : Verdict) → IsVerdict t v → WeakListProperty t → v ≡ Holds
verdict-Holds t Holds is h = refl
verdict-Holds t (BadVisibility e) is h = absurd (fault-breaks t.start t.events e (BadVisibility e) is.fault (h.events e is.within))
verdict-Holds t (Doubled e a) is h = absurd (fault-breaks t.start t.events e (Doubled e a) is.fault (h.events e is.within))
verdict-Holds t (Missing e a) is h = absurd (fault-breaks t.start t.events e (Missing e a) is.fault (h.events e is.within))
verdict-Holds t (Extra e a) is h = absurd (fault-breaks t.start t.events e (Extra e a) is.fault (h.events e is.within))
verdict-Holds t (WrongPlace e a) is h = absurd (fault-breaks t.start t.events e (WrongPlace e a) is.fault (h.events e is.within))
verdict-Holds t (Reversed d e a b) is h = absurd (h.one_order d e a b is.1)
