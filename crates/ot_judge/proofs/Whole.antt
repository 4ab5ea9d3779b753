-- From the events to the whole trace.
use Rattle.std.proofs.Common.{◌≡◌, ℕ, ◌<◌, ◌≤◌, List, [], ◌∷◌, length, get_or, ap, sym, ◌∙◌, cond, arith, Bool, true, false, subst, map, Vec, Global, zero, suc}
use Rattle.std.specs.Prelude.{All}
use Rattle.std.proofs.lemmas.List.{get_or-map, length-map}
use Rattle.std.proofs.lemmas.List.Sums.{sum_by-cons}
use Rattle.ot_isa.specs.declared.elements.Tag.{Tag}
use Rattle.ot_judge.specs.declared.verdict.Verdict.{Verdict}
use Rattle.ot_judge.specs.declared.verdict.Verdict.TheVariants.{Holds, BadVisibility, Doubled, Missing, Extra, WrongPlace, Reversed}
use Rattle.ot_model.specs.Trace.{same_tag, contains, occurrences, EventView, TraceView, event_at, no_event}
use Rattle.ot_judge.specs.declared.trace.Event.{Event}
use Rattle.ot_judge.specs.Views.{trace_view}
use Rattle.ot_judge.proofs.Faults.{verdict-Holds}
use Rattle.ot_model.specs.WeakList.{required, IsReversed, EventHolds, WeakListProperty, lists}
use Rattle.ot_judge.specs.Places.{IsDistinct}
use Rattle.ot_judge.specs.Verdict.{IsFault, IsFirstFault, IsVerdict}
use Rattle.ot_judge.proofs.TagLemmas.{same_tag-refl}

abbrev number_of : Bool → ℕ
number_of b = cond b 1 0

-- an element of a list stands in it at least once
occurrences-at : (xs : List Tag) (k : ℕ) (d : Tag) → k < length xs → 1 ≤ occurrences (get_or xs k d) xs
occurrences-at [] k d lt = absurd (omega (arith, lt))
occurrences-at (x ∷ xs) zero d lt = omega (arith, sum_by-cons (λ b. cond (same_tag x b) 1 0) x xs, ap number_of (same_tag-refl x))
occurrences-at (x ∷ xs) (suc k) d lt =
    let a : Tag = get_or xs k d in
    omega (arith, sum_by-cons (λ b. cond (same_tag a b) 1 0) x xs, occurrences-at xs k d (omega (arith, lt)))

-- two places of one element
occurrences-twice : (xs : List Tag) (i j : ℕ) (d : Tag) → i < j → j < length xs → get_or xs i d ≡ get_or xs j d → 2 ≤ occurrences (get_or xs i d) xs
occurrences-twice [] i j d lt within h = absurd (omega (arith, within))
occurrences-twice (x ∷ xs) i zero d lt within h = absurd (omega (arith, lt))
occurrences-twice (x ∷ xs) zero (suc j) d lt within h =
    let again = occurrences-at xs j d (omega (arith, within)) in
    let same = ap (λ (a : Tag). occurrences a xs) h in
    omega (arith, again, same, sum_by-cons (λ b. cond (same_tag x b) 1 0) x xs, ap number_of (same_tag-refl x))
occurrences-twice (x ∷ xs) (suc i) (suc j) d lt within h =
    let a : Tag = get_or xs i d in
    omega (arith, sum_by-cons (λ b. cond (same_tag a b) 1 0) x xs, occurrences-twice xs i j d (omega (arith, lt)) (omega (arith, within)) h)

pub distinct-once : (xs : List Tag) → ((a : Tag) → occurrences a xs ≤ 1) → IsDistinct xs
distinct-once xs few = λ i j d lt within h. omega (arith, occurrences-twice xs i j d lt within h, few (get_or xs i d))

few-contents : (b : Bool) (n : ℕ) → n ≡ cond b 1 0 → n ≤ 1
few-contents true n h = omega (arith, h)
few-contents false n h = omega (arith, h)

pub distinct-list : (start : List Tag) (events : List EventView) (e : ℕ) → EventHolds start events e → IsDistinct (event_at events e).list
distinct-list start events e h = distinct-once (event_at events e).list (λ a. few-contents (contains (required start events e) a) (occurrences a (event_at events e).list) (h.contents a))

pub distinct-lists : (copies : List (Vec Tag Global)) (start : List Tag) (events : List EventView) → map (λ (v : Vec Tag Global). v.items) copies ≡ lists events → ((e : ℕ) → e < length events → EventHolds start events e) → All (λ (v : Vec Tag Global). IsDistinct v.items) copies
distinct-lists copies start events same holds = λ k d lt.
    let long : length copies ≡ length events = sym (length-map copies (λ (v : Vec Tag Global). v.items)) ∙ ap (λ (xs : List (List Tag)). length xs) same ∙ length-map events (λ (x : EventView). x.list) in
    let within : k < length events = omega (arith, lt, long) in
    let there : (event_at events k).list ≡ (get_or copies k d).items = sym (get_or-map (λ (x : EventView). x.list) events k no_event [] within) ∙ sym (ap (λ (xs : List (List Tag)). get_or xs k []) same) ∙ get_or-map (λ (v : Vec Tag Global). v.items) copies k d [] lt in
    subst (λ (xs : List Tag). IsDistinct xs) there (distinct-list start events k (holds k within))

first-fault : (t : TraceView) (e n : ℕ) (v : Verdict) → e < length t.events → ((d : ℕ) → d < e → EventHolds t.start t.events d) → IsFault t.start t.events e v → n ≡ e → IsFirstFault t n v
first-fault t e n v within earlier f same = subst (λ (k : ℕ). IsFirstFault t k v) (sym same) (record { within = within; earlier = earlier; fault = f })

pub verdict-fault : (t : TraceView) (e : ℕ) (v : Verdict) → e < length t.events → ((d : ℕ) → d < e → EventHolds t.start t.events d) → IsFault t.start t.events e v → IsVerdict t v
verdict-fault t e (BadVisibility n) within earlier f = first-fault t e n (BadVisibility n) within earlier f f.0
verdict-fault t e (Doubled n a) within earlier f = first-fault t e n (Doubled n a) within earlier f f.0
verdict-fault t e (Missing n a) within earlier f = first-fault t e n (Missing n a) within earlier f f.0
verdict-fault t e (Extra n a) within earlier f = first-fault t e n (Extra n a) within earlier f f.0
verdict-fault t e (WrongPlace n a) within earlier f = first-fault t e n (WrongPlace n a) within earlier f f.0
verdict-fault t e Holds within earlier f = absurd f
verdict-fault t e (Reversed d n a b) within earlier f = absurd f

pub verdict-reversed : (t : TraceView) (all : List (List Tag)) (d e : ℕ) (a b : Tag) → ((k : ℕ) → k < length t.events → EventHolds t.start t.events k) → all ≡ lists t.events → IsReversed all d e a b → IsVerdict t (Reversed d e a b)
verdict-reversed t all d e a b holds same r = (holds, subst (λ (xs : List (List Tag)). IsReversed xs d e a b) same r)

pub verdict-none : (t : TraceView) (all : List (List Tag)) → ((k : ℕ) → k < length t.events → EventHolds t.start t.events k) → all ≡ lists t.events → ((d e : ℕ) (a b : Tag) → ¬ IsReversed all d e a b) → WeakListProperty t
verdict-none t all holds same none = record {
  events = holds;
  one_order = λ d e a b r. none d e a b (subst (λ (xs : List (List Tag)). IsReversed xs d e a b) (sym same) r);
}

-- the trace that a Trace is seen as
pub trace-is : (replicas : ℕ) (s s' : List Tag) (events events' : List Event) (t : TraceView) → s ≡ s' → events ≡ events' → trace_view replicas s' events' ≡ t → trace_view replicas s events ≡ t
trace-is replicas s s' events events' t a b h = rw (a, b) h

pub verdict-both : (t : TraceView) (v : Verdict) → IsVerdict t v → (v ≡ Holds → WeakListProperty t) × (WeakListProperty t → v ≡ Holds)
verdict-both t v is = (λ same. subst (λ (w : Verdict). IsVerdict t w) same is, verdict-Holds t v is)
