-- Places that rise along lists.
use Rattle.std.proofs.Common.{◌≡◌, ℕ, ◌+◌, ◌<◌, ◌≤◌, List, [], length, get_or, ap, ◌∙◌, arith, inl, inr, Vec, Global}
use Rattle.std.specs.Prelude.{All}
use Rattle.std.specs.HashMap.{HashMap}
use Rattle.std.proofs.lemmas.Bool.{cases_lt}
use Rattle.std.proofs.lemmas.List.{get_or_default}
use Rattle.ot_isa.specs.declared.elements.Tag.{Tag}
use Rattle.ot_model.specs.TraceLaws.{AgreeInOrder}
use Rattle.ot_model.specs.WeakList.{IsBefore, IsReversed, nth}
use Rattle.ot_judge.specs.Ranks.{Climbs, rank_of}
use Rattle.ot_judge.proofs.Filtered.{all-items, items_of}
use Rattle.ot_judge.proofs.Rising.{agree-none}

-- the places of the first i elements rise, the last of them to last
pub record ClimbsTo {S : Type 0} (places : HashMap Tag ℕ S) (xs : List Tag) (i last : ℕ) : Type 0 where
  pub below : (k : ℕ) (d : Tag) → k < i → k < length xs → rank_of places (get_or xs k d) ≤ last
  pub rising : (j k : ℕ) (d : Tag) → j < k → k < i → k < length xs → rank_of places (get_or xs j d) < rank_of places (get_or xs k d)

pub climbs-none : {S : Type 0} (places : HashMap Tag ℕ S) (xs : List Tag) → ClimbsTo places xs 0 0
climbs-none places xs = record { below = λ k d lt. absurd (omega arith); rising = λ j k d jk lt. absurd (omega arith) }

pub climbs-more : {S : Type 0} (places : HashMap Tag ℕ S) (xs : List Tag) (i last place : ℕ) (c : Tag) → i < length xs → place ≡ rank_of places (get_or xs i c) → last < place → ClimbsTo places xs i last → ClimbsTo places xs (i + 1) place
climbs-more places xs i last place c within is up r = record {
  below = λ k d lt inside. elim (cases_lt k i) [
    | inl before ↦ omega (arith, r.below k d before inside)
    | inr after ↦
        let here : k ≡ i = omega arith in
        let same = ap (λ (n : ℕ). rank_of places (get_or xs n d)) here ∙ ap (λ (t : Tag). rank_of places t) (get_or_default xs i d c within) in
        omega (arith, same, is)
  ];
  rising = λ j k d jk lt inside. elim (cases_lt k i) [
    | inl before ↦ r.rising j k d jk before inside
    | inr after ↦
        let here : k ≡ i = omega arith in
        let same = ap (λ (n : ℕ). rank_of places (get_or xs n d)) here ∙ ap (λ (t : Tag). rank_of places t) (get_or_default xs i d c within) in
        omega (arith, same, is, r.below j d (omega arith) (omega arith))
  ];
}

pub climbs-all : {S : Type 0} (places : HashMap Tag ℕ S) (xs : List Tag) (last : ℕ) → ClimbsTo places xs (length xs) last → Climbs places xs
climbs-all places xs last r = λ i j d lt within. r.rising i j d lt within within

climb-before : {S : Type 0} (places : HashMap Tag ℕ S) (xs : List Tag) (a b : Tag) → Climbs places xs → IsBefore xs a b → rank_of places a < rank_of places b
climb-before places xs a b climbs h =
    let there = get_or_default xs h.second a b h.within ∙ h.there in
    let up = climbs h.first h.second a h.order h.within in
    omega (arith, up, ap (λ (t : Tag). rank_of places t) h.here, ap (λ (t : Tag). rank_of places t) there)

-- places that rise along two lists show one order in both
agree-climbing : {S : Type 0} (places : HashMap Tag ℕ S) (xs ys : List Tag) → Climbs places xs → Climbs places ys → AgreeInOrder xs ys
agree-climbing places xs ys cx cy = λ a b forth back. absurd (omega (arith, climb-before places xs a b cx forth, climb-before places ys b a cy back))

pub climbing-none : {S : Type 0} (places : HashMap Tag ℕ S) (vs : List (Vec Tag Global)) → All (λ (v : Vec Tag Global). Climbs places v.items) vs → (d e : ℕ) (a b : Tag) → ¬ IsReversed (items_of vs) d e a b
climbing-none places vs h =
    let all = all-items (λ (xs : List Tag). Climbs places xs) vs h in
    agree-none (items_of vs) (λ d lt e later within. agree-climbing places (nth (items_of vs) d) (nth (items_of vs) e) (all d [] lt) (all e [] within))
