-- A walk along one list by the places in another.
use Rattle.std.proofs.Common.{◌≡◌, ℕ, ◌+◌, ◌<◌, ◌≤◌, List, [], length, get_or, ap, sym, ◌∙◌, cond, arith, Bool, inl, inr, map, Vec, Global}
use Rattle.std.specs.Prelude.{Some, None}
use Rattle.std.specs.HashMap.{HashMap, get}
use Rattle.std.proofs.lemmas.Bool.{cases_Bool, cases_lt, false_from_ne_true}
use Rattle.std.proofs.lemmas.List.{get_or_default, get_or-map, get_or_past}
use Rattle.ot_isa.specs.declared.elements.Tag.{Tag}
use Rattle.ot_model.specs.Trace.{same_tag}
use Rattle.ot_model.specs.WeakList.{IsBefore, IsReversed, nth}
use Rattle.ot_model.specs.TraceLaws.{AgreeInOrder}
use Rattle.ot_judge.specs.Places.{IsDistinct, IsIndex}
use Rattle.ot_judge.proofs.TagLemmas.{no_tag, same_tag-refl, same_tag-true}

abbrev pub at : List Tag → ℕ → Tag
at xs i = get_or xs i no_tag

-- the map names the places of the first i tags
pub record IsIndexBelow {S : Type 0} (places : HashMap Tag ℕ S) (xs : List Tag) (i : ℕ) : Type 0 where
  pub each : (p : ℕ) → p < i → get same_tag places (at xs p) ≡ Some p
  pub only : (q : Tag) (p : ℕ) → get same_tag places q ≡ Some p → (p < i) × (at xs p ≡ q)

some_same : (a b : ℕ) → Some a ≡ Some b → a ≡ b
some_same a b h = cc

pub index-more : {S : Type 0} (m n : HashMap Tag ℕ S) (xs : List Tag) (i : ℕ) → i < length xs → IsDistinct xs → IsIndexBelow m xs i → ((q : Tag) → get same_tag n q ≡ cond (same_tag (at xs i) q) (Some i) (get same_tag m q)) → IsIndexBelow n xs (i + 1)
index-more m n xs i lt distinct below updates = record {
  each = λ p h. elim (cases_lt p i) [
    | inl before ↦
        let other = false_from_ne_true (same_tag (at xs i) (at xs p)) (λ met. distinct p i no_tag before lt (sym (same_tag-true (at xs i) (at xs p) met))) in
        updates (at xs p) ∙ ap (λ (b : Bool). cond b (Some i) (get same_tag m (at xs p))) other ∙ below.each p before
    | inr after ↦
        let here : p ≡ i = omega arith in
        let self = ap (λ (b : Bool). cond b (Some i) (get same_tag m (at xs i))) (same_tag-refl (at xs i)) in
        rw here (updates (at xs i) ∙ self)
  ];
  only = λ q p h. elim (cases_Bool (same_tag (at xs i) q)) [
    | inl met ↦
        let here = some_same i p (sym (updates q ∙ ap (λ (b : Bool). cond b (Some i) (get same_tag m q)) met) ∙ h) in
        let same = same_tag-true (at xs i) q met in
        (omega arith, ap (λ (k : ℕ). at xs k) (sym here) ∙ same)
    | inr not_met ↦
        let found = below.only q p (sym (updates q ∙ ap (λ (b : Bool). cond b (Some i) (get same_tag m q)) not_met) ∙ h) in
        (omega (arith, found.0), found.1)
  ];
}

pub index-all : {S : Type 0} (m : HashMap Tag ℕ S) (xs : List Tag) → IsIndexBelow m xs (length xs) → IsIndex m xs
index-all m xs below = record {
  each = λ p d lt. ap (λ (a : Tag). get same_tag m a) (get_or_default xs p d no_tag lt) ∙ below.each p lt;
  only = λ q p h. let found = below.only q p h in (found.0, get_or_default xs p q no_tag found.0 ∙ found.1);
}

-- the first i tags of ys stand in xs in places that never fall, the last of them at the place last
pub record Rises (xs ys : List Tag) (i last : ℕ) : Type 0 where
  pub highest : (k p : ℕ) → k < i → p < length xs → at xs p ≡ at ys k → p ≤ last
  pub rising : (j k p r : ℕ) → j < k → k < i → p < length xs → r < length xs → at xs p ≡ at ys j → at xs r ≡ at ys k → p ≤ r
  pub met : 0 < last → (k : ℕ) × (k < i) × (last < length xs) × (at xs last ≡ at ys k)

-- a tag of the list stands where the index says
placed : {S : Type 0} (m : HashMap Tag ℕ S) (xs : List Tag) (y : Tag) (p : ℕ) → IsIndex m xs → p < length xs → at xs p ≡ y → get same_tag m y ≡ Some p
placed m xs y p index lt h = sym (ap (λ (a : Tag). get same_tag m a) h) ∙ index.each p no_tag lt

pub rises-skip : {S : Type 0} (m : HashMap Tag ℕ S) (xs ys : List Tag) (i last : ℕ) → IsIndex m xs → get same_tag m (at ys i) ≡ None → Rises xs ys i last → Rises xs ys (i + 1) last
rises-skip m xs ys i last index none r = record {
  highest = λ k p lt pl h. elim (cases_lt k i) [
    | inl before ↦ r.highest k p before pl h
    | inr after ↦
        let here : k ≡ i = omega arith in
        let found = placed m xs (at ys i) p index pl (h ∙ ap (λ (n : ℕ). at ys n) here) in
        absurd (let clash = sym none ∙ found in cc)
  ];
  rising = λ j k p s jk lt pl sl hp hs. elim (cases_lt k i) [
    | inl before ↦ r.rising j k p s jk before pl sl hp hs
    | inr after ↦
        let here : k ≡ i = omega arith in
        let found = placed m xs (at ys i) s index sl (hs ∙ ap (λ (n : ℕ). at ys n) here) in
        absurd (let clash = sym none ∙ found in cc)
  ];
  met = λ h. let w = r.met h in (w.0, omega (arith, w.1), w.2, w.3);
}

pub rises-more : {S : Type 0} (m : HashMap Tag ℕ S) (xs ys : List Tag) (i last p : ℕ) → IsIndex m xs → get same_tag m (at ys i) ≡ Some p → last ≤ p → Rises xs ys i last → Rises xs ys (i + 1) p
rises-more m xs ys i last p index some up r =
    let here = index.only (at ys i) p some in
    record {
      highest = λ k q lt ql h. elim (cases_lt k i) [
        | inl before ↦ omega (arith, r.highest k q before ql h)
        | inr after ↦
            let now : k ≡ i = omega arith in
            let found = placed m xs (at ys i) q index ql (h ∙ ap (λ (n : ℕ). at ys n) now) in
            omega (arith, some_same q p (sym found ∙ some))
      ];
      rising = λ j k q s jk lt ql sl hq hs. elim (cases_lt k i) [
        | inl before ↦ r.rising j k q s jk before ql sl hq hs
        | inr after ↦
            let now : k ≡ i = omega arith in
            let found = placed m xs (at ys i) s index sl (hs ∙ ap (λ (n : ℕ). at ys n) now) in
            omega (arith, some_same s p (sym found ∙ some), r.highest j q (omega arith) ql hq)
      ];
      met = λ h. (i, omega arith, here.0, get_or_default xs p no_tag (at ys i) here.0 ∙ here.1);
    }

-- a place that falls gives a pair
pub falls : {S : Type 0} (m : HashMap Tag ℕ S) (xs ys : List Tag) (i last p : ℕ) → IsIndex m xs → i < length ys → get same_tag m (at ys i) ≡ Some p → p < last → Rises xs ys i last → IsBefore xs (at ys i) (at xs last) × IsBefore ys (at xs last) (at ys i)
falls m xs ys i last p index lt some down r =
    let here = index.only (at ys i) p some in
    let w = r.met (omega arith) in (
      record { first = p; second = last; order = down; within = w.2; here = here.1; there = get_or_default xs last (at xs last) no_tag w.2 },
      record { first = w.0; second = i; order = w.1; within = lt; here = get_or_default ys w.0 (at xs last) no_tag (omega (arith, w.1)) ∙ sym w.3; there = get_or_default ys i (at ys i) no_tag lt },
    )

pub rises-all : (xs ys : List Tag) (last : ℕ) → Rises xs ys (length ys) last → AgreeInOrder xs ys
rises-all xs ys last r = λ a b forth back.
    let first_in : forth.first < length xs = omega (arith, forth.order, forth.within) in
    let back_in : back.first < length ys = omega (arith, back.order, back.within) in
    let a_in_xs = get_or_default xs forth.first no_tag a first_in ∙ forth.here in
    let b_in_xs = get_or_default xs forth.second no_tag b forth.within ∙ forth.there in
    let b_in_ys = get_or_default ys back.first no_tag b back_in ∙ back.here in
    let a_in_ys = get_or_default ys back.second no_tag a back.within ∙ back.there in
    let up = r.rising back.first back.second forth.second forth.first back.order back.within forth.within first_in (b_in_xs ∙ sym b_in_ys) (a_in_xs ∙ sym a_in_ys) in
    omega (arith, up, forth.order)

pub nth-items : {X : Type 0} (lists : List (Vec X Global)) (e : ℕ) (v : Vec X Global) → e < length lists → v ≡ get_or lists e v → nth (map (λ (w : Vec X Global). w.items) lists) e ≡ v.items
nth-items {X} lists e v lt is = get_or-map (λ (w : Vec X Global). w.items) lists e v [] lt ∙ ap (λ (w : Vec X Global). w.items) (sym is)

pub agree-along : (xs ys us vs : List Tag) → us ≡ xs → vs ≡ ys → AgreeInOrder xs ys → AgreeInOrder us vs
agree-along xs ys us vs u v h = rw (u, v) h

pub agree-none : (lists : List (List Tag)) → ((d : ℕ) → d < length lists → (e : ℕ) → d < e → e < length lists → AgreeInOrder (nth lists d) (nth lists e)) → (d e : ℕ) (a b : Tag) → ¬ IsReversed lists d e a b
agree-none lists agree d e a b r =
    elim (cases_lt e (length lists)) [
      | inl within ↦ agree d (omega (arith, r.later)) e r.later within a b r.forth r.back
      | inr past ↦
          let empty : length (nth lists e) ≡ 0 = ap (λ (xs : List Tag). length xs) (get_or_past lists e [] past) in
          absurd (omega (arith, empty, r.back.within))
    ]
