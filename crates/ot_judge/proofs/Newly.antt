-- What an event knows beyond the last one of its replica, and what both give.
use Rattle.std.proofs.Common.{◌≡◌, ℕ, ◌+◌, ◌<◌, ◌≤◌, List, [], ◌∷◌, ◌++◌, length, get_or, take, ap, sym, ◌∙◌, cond, arith, Bool, true, false, ◌||◌, inl, inr, ◌⊎◌, subst, eq-eqb, lt-ltb, refl, suc, zero}
use Rattle.std.specs.Prelude.{Option, Some, None, All}
use Rattle.std.specs.List.{Contains, flat_map, range_with_len}
use Rattle.std.proofs.lemmas.Bool.{and_from, and_parts, both_ways, cases_Bool, cases_lt, eqb-true, ltb-true, or_cases, or_left, or_right}
use Rattle.std.proofs.lemmas.List.{append-nil, get_or_past, take_more}
use Rattle.std.proofs.lemmas.List.Elements.{All-cons, All-nil, All-push, All-weaker, Contains-append_left, Contains-push}
use Rattle.std.proofs.lemmas.List.Folds.{list_any-append}
use Rattle.std.proofs.lemmas.List.Concat.{flat_map-append}
use Rattle.std.proofs.lemmas.List.FromFn.{get_or-range_with_len, length-range_with_len}
use Rattle.ot_isa.specs.declared.elements.Tag.{Tag}
use Rattle.ot_model.specs.Trace.{contains, event_at, EventView, no_event, same_tag}
use Rattle.ot_model.specs.Visibility.{edits_before, is_edit_of, seen_of, sees, SeesRightly}
use Rattle.ot_model.specs.WeakList.{from_known, knows}
use Rattle.ot_judge.specs.Turns.{Adds, AreNews, given, given_before, IsEdit, IsKnown, IsLastOf, knew}
use Rattle.ot_judge.proofs.Counts.{edits-past, follows-same, one-edit, replica-is}

-- ---- lists of lists

pub flat-in : {X : Type 0} (f : X → List Tag) (xs : List X) (k : ℕ) (d : X) (q : Tag) → k < length xs → contains (f (get_or xs k d)) q ≡ true → contains (flat_map f xs) q ≡ true
flat-in f [] k d q lt h = absurd (omega (arith, lt))
flat-in f (x ∷ xs) zero d q lt h = list_any-append (same_tag q) (f x) (flat_map f xs) ∙ or_left (contains (f x) q) (contains (flat_map f xs) q) h
flat-in f (x ∷ xs) (suc k) d q lt h = list_any-append (same_tag q) (f x) (flat_map f xs) ∙ or_right (contains (f x) q) (contains (flat_map f xs) q) (flat-in f xs k d q (omega (arith, lt)) h)

pub flat-out : {X : Type 0} (f : X → List Tag) (xs : List X) (d : X) (q : Tag) → contains (flat_map f xs) q ≡ true → (k : ℕ) × (k < length xs) × (contains (f (get_or xs k d)) q ≡ true)
flat-out f [] d q h = absurd (both_ways false refl h)
flat-out f (x ∷ xs) d q h = elim (or_cases (contains (f x) q) (contains (flat_map f xs) q) (sym (list_any-append (same_tag q) (f x) (flat_map f xs)) ∙ h)) [
  | inl here ↦ (0, omega arith, here)
  | inr there ↦ let w = flat-out f xs d q there in (suc w.0, omega (arith, w.1), w.2)
]

pub same-bool : (a b : Bool) → (a ≡ true → b ≡ true) → (b ≡ true → a ≡ true) → a ≡ b
same-bool true b f g = sym (f refl)
same-bool false true f g = g refl
same-bool false false f g = refl

-- ---- what is given by known events

abbrev known_part : List EventView → ℕ → (EventView → List Tag) → ℕ → List Tag
known_part events e part d = cond (knows events e d) (part (event_at events d)) []

pub known-in : (events : List EventView) (e d : ℕ) (part : EventView → List Tag) (q : Tag) → d < length events → knows events e d ≡ true → contains (part (event_at events d)) q ≡ true → contains (from_known events e part) q ≡ true
known-in events e d part q lt k h =
    let n : ℕ = length events in
    let at = get_or-range_with_len 0 n d 0 lt in
    let here : get_or (range_with_len 0 n) d 0 ≡ d = omega (arith, at) in
    let there = ap (λ (b : Bool). contains (cond b (part (event_at events d)) []) q) k ∙ h in
    flat-in (known_part events e part) (range_with_len 0 n) d 0 q (omega (arith, length-range_with_len 0 n, lt)) (ap (λ (i : ℕ). contains (known_part events e part i) q) here ∙ there)

pub known-out : (events : List EventView) (e : ℕ) (part : EventView → List Tag) (q : Tag) → contains (from_known events e part) q ≡ true → (d : ℕ) × (d < length events) × (knows events e d ≡ true) × (contains (part (event_at events d)) q ≡ true)
known-out events e part q h =
    let n : ℕ = length events in
    let w = flat-out (known_part events e part) (range_with_len 0 n) 0 q h in
    let lt : w.0 < n = omega (arith, w.1, length-range_with_len 0 n) in
    let here : get_or (range_with_len 0 n) w.0 0 ≡ w.0 = omega (arith, get_or-range_with_len 0 n w.0 0 lt) in
    let at = sym (ap (λ (i : ℕ). contains (known_part events e part i) q) here) ∙ w.2 in
    elim (cases_Bool (knows events e w.0)) [
      | inl k ↦ (w.0, lt, k, sym (ap (λ (b : Bool). contains (cond b (part (event_at events w.0)) []) q) k) ∙ at)
      | inr k ↦ absurd (both_ways false refl (sym (ap (λ (b : Bool). contains (cond b (part (event_at events w.0)) []) q) k) ∙ at))
    ]

-- what the last event knew, the event knows too, but for a read
pub known-up : (events : List EventView) (e d : ℕ) (last : Option ℕ) → e < length events → IsLastOf events e (event_at events e).replica last → SeesRightly events e → knew events last d ≡ true → (knows events e d ≡ true) ⊎ ((event_at events d).edit ≡ false)
known-up events e d None within lastof visible h = absurd (both_ways false refl h)
known-up events e d (Some p) within lastof visible h = elim (or_cases _ (sees events p d) h) [
  | inl self ↦
      let here = eqb-true d p self in
      elim (cases_Bool (event_at events d).edit) [
        | inl edit ↦ inl (or_right _ (sees events e d) (own-seen here edit))
        | inr read ↦ inr read
      ]
  | inr seen ↦
      let q : ℕ = (event_at events d).replica in
      let parts = and_parts (event_at events d).edit _ seen in
      let more = visible.closed p lastof.before (follows-same events e p lastof.same) q in
      let few = ltb-true (edits_before events d q) (seen_of (event_at events p) q) parts.1 in
      inl (or_right _ (sees events e d) (and_from (event_at events d).edit _ parts.0 (lt-ltb (edits_before events d q) (seen_of (event_at events e) q) (omega (arith, few, more)))))
] where
  own-seen : d ≡ p → (event_at events d).edit ≡ true → sees events e d ≡ true
  own-seen here edit =
      let q : ℕ = (event_at events d).replica in
      let same : q ≡ (event_at events e).replica = ap (λ (k : ℕ). (event_at events k).replica) here ∙ lastof.same in
      let lt : d < e = omega (arith, here, lastof.before) in
      let past = edits-past events d e q lt (omega (arith, lt, within)) (and_from (event_at events d).edit _ edit (eq-eqb q q refl)) in
      let own = ap (λ (r : ℕ). seen_of (event_at events e) r) same ∙ visible.own ∙ sym (ap (λ (r : ℕ). edits_before events e r) same) in
      and_from (event_at events d).edit _ edit (lt-ltb (edits_before events d q) (seen_of (event_at events e) q) (omega (arith, past, own)))

-- a read gives nothing
pub reads-give : (events : List EventView) (part : EventView → List Tag) → All (λ x. x.edit ≡ false → part x ≡ []) events → part no_event ≡ [] → (d : ℕ) → (event_at events d).edit ≡ false → part (event_at events d) ≡ []
reads-give events part reads none d read = elim (cases_lt d (length events)) [
  | inl within ↦ reads d no_event within read
  | inr past ↦ ap part (get_or_past events d no_event past) ∙ none
]

-- what an event knows gives what the last one knew gives, and what is newly known
pub known-split : (events : List EventView) (e : ℕ) (last : Option ℕ) (news : List ℕ) (part : EventView → List Tag) (q : Tag) → e < length events → IsLastOf events e (event_at events e).replica last → SeesRightly events e → AreNews events e last news → ((d : ℕ) → (event_at events d).edit ≡ false → part (event_at events d) ≡ [])
    → contains (from_known events e part) q ≡ (contains (given_before events part last) q || contains (given events part news) q)
known-split events e last news part q within lastof visible are reads =
    same-bool _ _ forth back
  where
    before-in : (o : Option ℕ) (d : ℕ) → d < length events → knew events o d ≡ true → contains (part (event_at events d)) q ≡ true → contains (given_before events part o) q ≡ true
    before-in None d lt k h = absurd (both_ways false refl k)
    before-in (Some p) d lt k h = known-in events p d part q lt k h

    before-out : (o : Option ℕ) → contains (given_before events part o) q ≡ true → (d : ℕ) × (d < length events) × (knew events o d ≡ true) × (contains (part (event_at events d)) q ≡ true)
    before-out None h = absurd (both_ways false refl h)
    before-out (Some p) h = known-out events p part q h

    forth : contains (from_known events e part) q ≡ true → (contains (given_before events part last) q || contains (given events part news) q) ≡ true
    forth h =
        let w = known-out events e part q h in
        elim (are.rest w.0 w.1 w.2) [
          | inl old ↦ or_left _ (contains (given events part news) q) (before-in last w.0 w.1 old w.3)
          | inr new ↦ or_right (contains (given_before events part last) q) _ (flat-in (λ d. part (event_at events d)) news new.0 w.0 q new.1 (ap (λ (d : ℕ). contains (part (event_at events d)) q) new.2 ∙ w.3))
        ]

    back : (contains (given_before events part last) q || contains (given events part news) q) ≡ true → contains (from_known events e part) q ≡ true
    back h = elim (or_cases (contains (given_before events part last) q) (contains (given events part news) q) h) [
      | inl old ↦
          let w = before-out last old in
          elim (known-up events e w.0 last within lastof visible w.2) [
            | inl k ↦ known-in events e w.0 part q w.1 k w.3
            | inr read ↦ absurd (both_ways false refl (sym (ap (λ (xs : List Tag). contains xs q) (reads w.0 read)) ∙ w.3))
          ]
      | inr new ↦
          let w = flat-out (λ d. part (event_at events d)) news 0 q new in
          let is = are.known w.0 0 w.1 in
          known-in events e (get_or news w.0 0) part q is.within is.known w.2
    ]

-- ---- the edits that are added

pub knew-itself : (events : List EventView) (d : ℕ) (last : Option ℕ) → last ≡ Some d → knew events last d ≡ true
knew-itself events d last h = ap (λ (o : Option ℕ). knew events o d) h ∙ or_left _ (sees events d d) (eq-eqb d d refl)

pub knew-seen : (events : List EventView) (p d r : ℕ) → is_edit_of r (event_at events d) ≡ true → edits_before events d r < seen_of (event_at events p) r → knows events p d ≡ true
knew-seen events p d r edit few =
    let is = replica-is r (event_at events d) edit in
    let same = is.1 in
    let little : edits_before events d (event_at events d).replica < seen_of (event_at events p) (event_at events d).replica = subst (λ (k : ℕ). edits_before events d k < seen_of (event_at events p) k) (sym same) few in
    or_right _ (sees events p d) (and_from (event_at events d).edit _ is.0 (lt-ltb _ _ little))

pub adds-none : (events : List EventView) (e r n : ℕ) (last : Option ℕ) (news : List ℕ) → ((d : ℕ) → is_edit_of r (event_at events d) ≡ true → edits_before events d r < n → knew events last d ≡ true) → Adds events e last r n news news
adds-none events e r n last news below = record { known = λ h. h; kept = λ d h. h; rest = λ d lt edit few. inl (below d edit few) }

pub adds-upto : (events : List EventView) (e r m n : ℕ) (last : Option ℕ) (old new : List ℕ) → m ≤ n → Adds events e last r n old new → Adds events e last r m old new
adds-upto events e r m n last old new le a = record { known = a.known; kept = a.kept; rest = λ d lt edit few. a.rest d lt edit (omega (arith, few, le)) }

-- one more edit, appended or known to the last event
adds-rest : (events : List EventView) (e r n d : ℕ) (last : Option ℕ) (old new more : List ℕ) → ((k : ℕ) → Contains new k → Contains more k) → (knew events last d ≡ true) ⊎ Contains more d → IsEdit events r n d → Adds events e last r n old new → (k : ℕ) → k < length events → is_edit_of r (event_at events k) ≡ true → edits_before events k r < n + 1 → (knew events last k ≡ true) ⊎ Contains more k
adds-rest events e r n d last old new more kept here is a k lt edit few = elim (cases_lt (edits_before events k r) n) [
  | inl below ↦ elim (a.rest k lt edit below) [ inl knows ↦ inl knows | inr has ↦ inr (kept k has) ]
  | inr above ↦
      let same = one-edit events r n k d (record { within = lt; edit = edit; number = omega (arith, few, above) }) is in
      subst (λ (j : ℕ). (knew events last j ≡ true) ⊎ Contains more j) (sym same) here
]

pub adds-more : (events : List EventView) (e r n d : ℕ) (last : Option ℕ) (old new more : List ℕ) → more ≡ new ++ d ∷ [] → n < seen_of (event_at events e) r → IsEdit events r n d → Adds events e last r n old new → Adds events e last r (n + 1) old more
adds-more events e r n d last old new more pushed few is a =
    let known : IsKnown events e d = record { within = is.within; known = knew-seen events e d r is.edit (omega (arith, few, is.number)) } in
    let kept : (k : ℕ) → Contains new k → Contains more k = λ k h. subst (λ (xs : List ℕ). Contains xs k) (sym pushed) (Contains-append_left new (d ∷ []) k h) in
    let here : Contains more d = subst (λ (xs : List ℕ). Contains xs d) (sym pushed) (Contains-push new d) in
    record {
      known = λ h. subst (λ (xs : List ℕ). All (IsKnown events e) xs) (sym pushed) (All-push (IsKnown events e) new d (a.known h) known);
      kept = λ k h. kept k (a.kept k h);
      rest = adds-rest events e r n d last old new more kept (inr here) is a;
    }

pub adds-skip : (events : List EventView) (e r n d : ℕ) (last : Option ℕ) (old new : List ℕ) → last ≡ Some d → IsEdit events r n d → Adds events e last r n old new → Adds events e last r (n + 1) old new
adds-skip events e r n d last old new same is a = record {
  known = a.known;
  kept = a.kept;
  rest = adds-rest events e r n d last old new new (λ k h. h) (inl (knew-itself events d last same)) is a;
}

-- an event knows itself
pub own-known : (events : List EventView) (e : ℕ) (news : List ℕ) → e < length events → news ≡ e ∷ [] → All (IsKnown events e) news
own-known events e news within one =
    subst (λ (ns : List ℕ). All (IsKnown events e) ns) (sym one) (All-cons (IsKnown events e) e [] (record { within = within; known = or_left _ (sees events e e) (eq-eqb e e refl) }) (All-nil (IsKnown events e)))

pub own-there : (e : ℕ) (news : List ℕ) → news ≡ e ∷ [] → Contains news e
own-there e news one = subst (λ (ns : List ℕ). Contains ns e) (sym one) (0, omega arith, refl)

-- all that the event newly knows was added
pub news-all : (events : List EventView) (e n : ℕ) (last : Option ℕ) (news : List ℕ) → length (event_at events e).seen ≤ n → All (IsKnown events e) news → Contains news e
    → ((r : ℕ) → r < n → (d : ℕ) → d < length events → is_edit_of r (event_at events d) ≡ true → edits_before events d r < seen_of (event_at events e) r → (knew events last d ≡ true) ⊎ Contains news d) → AreNews events e last news
news-all events e n last news long known own rest = record {
  known = known;
  rest = λ d lt h. elim (or_cases _ (sees events e d) h) [
    | inl self ↦ inr (subst (λ (k : ℕ). Contains news k) (sym (eqb-true d e self)) own)
    | inr seen ↦
        let q : ℕ = (event_at events d).replica in
        let parts = and_parts (event_at events d).edit _ seen in
        let few = ltb-true (edits_before events d q) (seen_of (event_at events e) q) parts.1 in
        elim (cases_lt q n) [
          | inl within ↦ rest q within d lt (and_from (event_at events d).edit _ parts.0 (eq-eqb q q refl)) few
          | inr past ↦ absurd (omega (arith, few, get_or_past (event_at events e).seen q 0 (omega (arith, past, long))))
        ]
  ];
}

-- newly known events stand among the events
pub news-within : (events : List EventView) (e n : ℕ) (last : Option ℕ) (news slice : List ℕ) → length events ≡ n → slice ≡ news → AreNews events e last news → All (λ d. d < n) slice
news-within events e n last news slice long same are =
    subst (λ (ds : List ℕ). All (λ d. d < n) ds) (sym same) (All-weaker (IsKnown events e) (λ d. d < n) (λ d h. omega (arith, h.within, long)) news are.known)

pub given-more : (events : List EventView) (part : EventView → List Tag) (news : List ℕ) (i : ℕ) → i < length news → given events part (take (i + 1) news) ≡ given events part (take i news) ++ part (event_at events (get_or news i 0))
given-more events part news i lt =
    let f : ℕ → List Tag = λ d. part (event_at events d) in
    ap (flat_map f) (take_more news i 0 lt) ∙ flat_map-append f (take i news) (get_or news i 0 ∷ []) ∙ ap (λ (xs : List Tag). given events part (take i news) ++ xs) (append-nil (f (get_or news i 0)))
