-- Order in a list and in a part of it.
use Rattle.std.proofs.Common.{◌≡◌, ◌≢◌, ℕ, ◌+◌, ◌<◌, ◌≤◌, List, [], ◌∷◌, length, get_or, ap, sym, ◌∙◌, cond, arith, refl, Bool, true, false, ◌⊎◌, inl, inr, subst, zero, suc, map, Vec, Global, take}
use Rattle.std.specs.Prelude.{filter, All, Option, Some, None, IsTrue, nat_eq, MatchOption}
use Rattle.std.specs.HashMap.{HashMap, get}
use Rattle.std.specs.HashSet.{HashSet, contains as set_contains}
use Rattle.std.proofs.lemmas.Bool.{cases_Bool, cases_lt}
use Rattle.std.proofs.lemmas.List.{get_or-map, length-map, get_or_default, get_or_past}
use Rattle.std.proofs.lemmas.List.Elements.{All-more, All-map}
use Rattle.ot_isa.specs.declared.elements.Tag.{Tag}
use Rattle.ot_judge.specs.declared.order.Reversal.{Reversal}
use Rattle.ot_model.specs.WeakList.{IsBefore, IsReversed, nth}
use Rattle.ot_judge.specs.Places.{IsDistinct}
use Rattle.ot_judge.specs.Ranks.{rank_of, NeverFalls, is_crowded, IsAccounted}

abbrev Member : List Tag → Tag → Type 0
Member [] a = ⊥
Member (x ∷ xs) a = (x ≡ a) ⊎ Member xs a

abbrev Before : List Tag → Tag → Tag → Type 0
Before [] a b = ⊥
Before (x ∷ xs) a b = ((x ≡ a) × Member xs b) ⊎ Before xs a b

member-at : (xs : List Tag) (k : ℕ) (b : Tag) → k < length xs → get_or xs k b ≡ b → Member xs b
member-at [] k b lt h = absurd (omega (arith, lt))
member-at (x ∷ xs) zero b lt h = inl h
member-at (x ∷ xs) (suc k) b lt h = inr (member-at xs k b (omega (arith, lt)) h)

place-of : (xs : List Tag) (b : Tag) → Member xs b → (k : ℕ) × (k < length xs) × (get_or xs k b ≡ b)
place-of [] b h = absurd h
place-of (x ∷ xs) b (inl h) = (0, omega arith, h)
place-of (x ∷ xs) b (inr h) = let w = place-of xs b h in (suc w.0, omega (arith, w.1), w.2)

before-at : (xs : List Tag) (i j : ℕ) (a b : Tag) → i < j → j < length xs → get_or xs i a ≡ a → get_or xs j b ≡ b → Before xs a b
before-at [] i j a b lt within h k = absurd (omega (arith, within))
before-at (x ∷ xs) i zero a b lt within h k = absurd (omega (arith, lt))
before-at (x ∷ xs) zero (suc j) a b lt within h k = inl (h, member-at xs j b (omega (arith, within)) k)
before-at (x ∷ xs) (suc i) (suc j) a b lt within h k = inr (before-at xs i j a b (omega (arith, lt)) (omega (arith, within)) h k)

pub to-before : (xs : List Tag) (a b : Tag) → IsBefore xs a b → Before xs a b
to-before xs a b h = before-at xs h.first h.second a b h.order h.within h.here h.there

shifted : (x : Tag) (xs : List Tag) (a b : Tag) → IsBefore xs a b → IsBefore (x ∷ xs) a b
shifted x xs a b h = record { first = suc h.first; second = suc h.second; order = omega (arith, h.order); within = omega (arith, h.within); here = h.here; there = h.there }

pub from-before : (xs : List Tag) (a b : Tag) → Before xs a b → IsBefore xs a b
from-before [] a b h = absurd h
from-before (x ∷ xs) a b (inl h) =
    let w = place-of xs b h.1 in
    record { first = 0; second = suc w.0; order = omega arith; within = omega (arith, w.1); here = h.0; there = w.2 }
from-before (x ∷ xs) a b (inr h) = shifted x xs a b (from-before xs a b h)

member-filter : (p : Tag → Bool) (xs : List Tag) (b : Tag) → p b ≡ true → Member xs b → Member (filter p xs) b
member-filter p [] b pb h = h
member-filter p (x ∷ xs) b pb (inl h) =
    let passes : p x ≡ true = ap p h ∙ pb in
    subst (λ (t : Bool). Member (cond t (x ∷ filter p xs) (filter p xs)) b) (sym passes) (inl h)
member-filter p (x ∷ xs) b pb (inr h) =
    let rest = member-filter p xs b pb h in
    elim (cases_Bool (p x)) [
      | inl passes ↦ subst (λ (t : Bool). Member (cond t (x ∷ filter p xs) (filter p xs)) b) (sym passes) (inr rest)
      | inr fails ↦ subst (λ (t : Bool). Member (cond t (x ∷ filter p xs) (filter p xs)) b) (sym fails) rest
    ]

filter-member : (p : Tag → Bool) (xs : List Tag) (b : Tag) → Member (filter p xs) b → Member xs b
filter-member p [] b h = h
filter-member p (x ∷ xs) b h = elim (cases_Bool (p x)) [
  | inl passes ↦
      let here : Member (x ∷ filter p xs) b = subst (λ (t : Bool). Member (cond t (x ∷ filter p xs) (filter p xs)) b) passes h in
      elim here [ inl e ↦ inl e | inr m ↦ inr (filter-member p xs b m) ]
  | inr fails ↦ inr (filter-member p xs b (subst (λ (t : Bool). Member (cond t (x ∷ filter p xs) (filter p xs)) b) fails h))
]

pub before-filter : (p : Tag → Bool) (xs : List Tag) (a b : Tag) → p a ≡ true → p b ≡ true → Before xs a b → Before (filter p xs) a b
before-filter p [] a b pa pb h = h
before-filter p (x ∷ xs) a b pa pb (inl h) =
    let passes : p x ≡ true = ap p h.0 ∙ pa in
    subst (λ (t : Bool). Before (cond t (x ∷ filter p xs) (filter p xs)) a b) (sym passes) (inl (h.0, member-filter p xs b pb h.1))
before-filter p (x ∷ xs) a b pa pb (inr h) =
    let rest = before-filter p xs a b pa pb h in
    elim (cases_Bool (p x)) [
      | inl passes ↦ subst (λ (t : Bool). Before (cond t (x ∷ filter p xs) (filter p xs)) a b) (sym passes) (inr rest)
      | inr fails ↦ subst (λ (t : Bool). Before (cond t (x ∷ filter p xs) (filter p xs)) a b) (sym fails) rest
    ]

pub filter-before : (p : Tag → Bool) (xs : List Tag) (a b : Tag) → Before (filter p xs) a b → Before xs a b
filter-before p [] a b h = h
filter-before p (x ∷ xs) a b h = elim (cases_Bool (p x)) [
  | inl passes ↦
      let here : Before (x ∷ filter p xs) a b = subst (λ (t : Bool). Before (cond t (x ∷ filter p xs) (filter p xs)) a b) passes h in
      elim here [ inl e ↦ inl (e.0, filter-member p xs b e.1) | inr m ↦ inr (filter-before p xs a b m) ]
  | inr fails ↦ inr (filter-before p xs a b (subst (λ (t : Bool). Before (cond t (x ∷ filter p xs) (filter p xs)) a b) fails h))
]

-- ranks that never fall keep their order in each list
rank-before : {S : Type 0} (ranks : HashMap Tag ℕ S) (xs : List Tag) (a b : Tag) → NeverFalls ranks xs → IsBefore xs a b → rank_of ranks a ≤ rank_of ranks b
rank-before ranks xs a b rises h =
    let first_in : h.first < length xs = omega (arith, h.order, h.within) in
    let here = h.here in
    let there = get_or_default xs h.second a b h.within ∙ h.there in
    let up = rises h.first h.second a h.order h.within in
    omega (arith, up, ap (λ (t : Tag). rank_of ranks t) here, ap (λ (t : Tag). rank_of ranks t) there)

-- where ranks never fall along either list, a reversed pair has equal ranks
pub equal-ranks : {S : Type 0} (ranks : HashMap Tag ℕ S) (xs ys : List Tag) (a b : Tag) → NeverFalls ranks xs → NeverFalls ranks ys → IsBefore xs a b → IsBefore ys b a → rank_of ranks a ≡ rank_of ranks b
equal-ranks ranks xs ys a b rx ry forth back = omega (arith, rank-before ranks xs a b rx forth, rank-before ranks ys b a ry back)

-- the ranks of the first i elements rise, the last of them to highest
pub record RisesTo {S : Type 0} (ranks : HashMap Tag ℕ S) (xs : List Tag) (i highest : ℕ) : Type 0 where
  pub below : (k : ℕ) (d : Tag) → k < i → k < length xs → rank_of ranks (get_or xs k d) ≤ highest
  pub rising : (j k : ℕ) (d : Tag) → j < k → k < i → k < length xs → rank_of ranks (get_or xs j d) ≤ rank_of ranks (get_or xs k d)

pub rises-to-none : {S : Type 0} (ranks : HashMap Tag ℕ S) (xs : List Tag) → RisesTo ranks xs 0 0
rises-to-none ranks xs = record { below = λ k d lt. absurd (omega arith); rising = λ j k d jk lt. absurd (omega arith) }

pub rises-to-more : {S : Type 0} (ranks : HashMap Tag ℕ S) (xs : List Tag) (i highest rank : ℕ) (c : Tag) → i < length xs → rank ≡ rank_of ranks (get_or xs i c) → highest ≤ rank → RisesTo ranks xs i highest → RisesTo ranks xs (i + 1) rank
rises-to-more ranks xs i highest rank c within is up r = record {
  below = λ k d lt inside. elim (cases_lt k i) [
    | inl before ↦ omega (arith, r.below k d before inside)
    | inr after ↦
        let here : k ≡ i = omega arith in
        let same = ap (λ (n : ℕ). rank_of ranks (get_or xs n d)) here ∙ ap (λ (t : Tag). rank_of ranks t) (get_or_default xs i d c within) in
        omega (arith, same, is)
  ];
  rising = λ j k d jk lt inside. elim (cases_lt k i) [
    | inl before ↦ r.rising j k d jk before inside
    | inr after ↦
        let here : k ≡ i = omega arith in
        let same = ap (λ (n : ℕ). rank_of ranks (get_or xs n d)) here ∙ ap (λ (t : Tag). rank_of ranks t) (get_or_default xs i d c within) in
        omega (arith, same, is, r.below j d (omega arith) (omega arith))
  ];
}

pub rises-to-all : {S : Type 0} (ranks : HashMap Tag ℕ S) (xs : List Tag) (highest : ℕ) → RisesTo ranks xs (length xs) highest → NeverFalls ranks xs
rises-to-all ranks xs highest r = λ i j d lt within. r.rising i j d lt within within

not-itself : (xs : List Tag) (a : Tag) → IsDistinct xs → IsBefore xs a a → ⊥
not-itself xs a distinct h =
    let first_in : h.first < length xs = omega (arith, h.order, h.within) in
    distinct h.first h.second a h.order h.within (h.here ∙ sym h.there)

distinct-filter : (p : Tag → Bool) (xs : List Tag) → IsDistinct xs → IsDistinct (filter p xs)
distinct-filter p xs distinct = λ i j d lt within same.
    let first_in : i < length (filter p xs) = omega arith in
    let a : Tag = get_or (filter p xs) i d in
    let twice : IsBefore (filter p xs) a a = record { first = i; second = j; order = lt; within = within; here = get_or_default (filter p xs) i a d first_in; there = get_or_default (filter p xs) j a d within ∙ sym same } in
    not-itself xs a distinct (from-before xs a a (filter-before p xs a a (to-before (filter p xs) a a twice)))

pub distinct-kept : (p : Tag → Bool) (vs ks : List (Vec Tag Global)) → map (λ (v : Vec Tag Global). v.items) ks ≡ map (filter p) (map (λ (v : Vec Tag Global). v.items) vs) → All (λ (v : Vec Tag Global). IsDistinct v.items) vs → All (λ (v : Vec Tag Global). IsDistinct v.items) ks
distinct-kept p vs ks same distinct = λ k d lt.
    let items : Vec Tag Global → List Tag = λ v. v.items in
    let long : length ks ≡ length vs = sym (length-map ks items) ∙ ap (λ (xs : List (List Tag)). length xs) same ∙ length-map (map items vs) (filter p) ∙ length-map vs items in
    let within : k < length vs = omega (arith, lt, long) in
    let inside : k < length (map items vs) = omega (arith, within, length-map vs items) in
    let is : items (get_or ks k d) ≡ filter p (items (get_or vs k d)) = sym (get_or-map items ks k d [] lt) ∙ ap (λ (xs : List (List Tag)). get_or xs k []) same ∙ get_or-map (filter p) (map items vs) k [] [] inside ∙ ap (filter p) (get_or-map items vs k d [] within) in
    subst (λ (xs : List Tag). IsDistinct xs) (sym is) (distinct-filter p (items (get_or vs k d)) (distinct k d within))

nth-kept : (p : Tag → Bool) (lists : List (List Tag)) (e : ℕ) → nth (map (filter p) lists) e ≡ filter p (nth lists e)
nth-kept p lists e = elim (cases_lt e (length lists)) [
  | inl within ↦ get_or-map (filter p) lists e [] [] within
  | inr past ↦ get_or_past (map (filter p) lists) e [] (omega (arith, past, length-map lists (filter p))) ∙ sym (ap (filter p) (get_or_past lists e [] past))
]

-- what is reversed in the parts is reversed in the lists
pub reversed-part : (p : Tag → Bool) (lists : List (List Tag)) (d e : ℕ) (a b : Tag) → IsReversed (map (filter p) lists) d e a b → IsReversed lists d e a b
reversed-part p lists d e a b r =
    let forth = subst (λ (xs : List Tag). IsBefore xs a b) (nth-kept p lists d) r.forth in
    let back = subst (λ (xs : List Tag). IsBefore xs b a) (nth-kept p lists e) r.back in
    record {
      later = r.later;
      forth = from-before (nth lists d) a b (filter-before p (nth lists d) a b (to-before (filter p (nth lists d)) a b forth));
      back = from-before (nth lists e) b a (filter-before p (nth lists e) b a (to-before (filter p (nth lists e)) b a back));
    }

pub part-reversed : (p : Tag → Bool) (lists : List (List Tag)) (d e : ℕ) (a b : Tag) → p a ≡ true → p b ≡ true → IsReversed lists d e a b → IsReversed (map (filter p) lists) d e a b
part-reversed p lists d e a b pa pb r = record {
  later = r.later;
  forth = subst (λ (xs : List Tag). IsBefore xs a b) (sym (nth-kept p lists d)) (from-before (filter p (nth lists d)) a b (before-filter p (nth lists d) a b pa pb (to-before (nth lists d) a b r.forth)));
  back = subst (λ (xs : List Tag). IsBefore xs b a) (sym (nth-kept p lists e)) (from-before (filter p (nth lists e)) b a (before-filter p (nth lists e) b a pb pa (to-before (nth lists e) b a r.back)));
}

some_tag : (a b : Tag) → Some a ≡ Some b → a ≡ b
some_tag a b h = cc

-- two elements of one rank that differ have a crowded rank
crowded-both : {S R Q : Type 0} (ranks : HashMap Tag ℕ S) (owners : HashMap ℕ Tag Q) (crowded : HashSet ℕ R) (a b : Tag) → rank_of ranks a ≡ rank_of ranks b → a ≢ b
    → (get nat_eq owners (rank_of ranks a) ≡ Some a) ⊎ IsTrue (is_crowded ranks crowded a) → (get nat_eq owners (rank_of ranks b) ≡ Some b) ⊎ IsTrue (is_crowded ranks crowded b)
    → (is_crowded ranks crowded a ≡ true) × (is_crowded ranks crowded b ≡ true)
crowded-both ranks owners crowded a b same differ (inr ca) ob = (ca, sym (ap (λ (n : ℕ). set_contains nat_eq crowded n) same) ∙ ca)
crowded-both ranks owners crowded a b same differ (inl oa) (inr cb) = (ap (λ (n : ℕ). set_contains nat_eq crowded n) same ∙ cb, cb)
crowded-both ranks owners crowded a b same differ (inl oa) (inl ob) = absurd (differ (some_tag a b (sym oa ∙ ap (λ (n : ℕ). get nat_eq owners n) same ∙ ob)))

at-first : {S R Q : Type 0} (ranks : HashMap Tag ℕ S) (owners : HashMap ℕ Tag Q) (crowded : HashSet ℕ R) (xs : List Tag) (a b : Tag) → IsAccounted ranks owners crowded xs → IsBefore xs a b → (get nat_eq owners (rank_of ranks a) ≡ Some a) ⊎ IsTrue (is_crowded ranks crowded a)
at-first ranks owners crowded xs a b acc h = subst (λ (t : Tag). (get nat_eq owners (rank_of ranks t) ≡ Some t) ⊎ IsTrue (is_crowded ranks crowded t)) h.here (acc h.first a (omega (arith, h.order, h.within)))

-- every reversed pair is in the crowded parts
pub reversed-crowded : {S R Q : Type 0} (ranks : HashMap Tag ℕ S) (owners : HashMap ℕ Tag Q) (crowded : HashSet ℕ R) (lists : List (List Tag)) (d e : ℕ) (a b : Tag)
    → All (λ (xs : List Tag). NeverFalls ranks xs) lists → All (λ (xs : List Tag). IsAccounted ranks owners crowded xs) lists → All (λ (xs : List Tag). IsDistinct xs) lists
    → IsReversed lists d e a b → IsReversed (map (filter (is_crowded ranks crowded)) lists) d e a b
reversed-crowded ranks owners crowded lists d e a b rises accounted distinct r =
    elim (cases_lt e (length lists)) [
      | inl e_in ↦
          let d_in : d < length lists = omega (arith, r.later) in
          let same = equal-ranks ranks (nth lists d) (nth lists e) a b (rises d [] d_in) (rises e [] e_in) r.forth r.back in
          let differ : a ≢ b = λ h. not-itself (nth lists d) a (distinct d [] d_in) (subst (λ (t : Tag). IsBefore (nth lists d) a t) (sym h) r.forth) in
          let both = crowded-both ranks owners crowded a b same differ (at-first ranks owners crowded (nth lists d) a b (accounted d [] d_in) r.forth) (at-first ranks owners crowded (nth lists e) b a (accounted e [] e_in) r.back) in
          part-reversed (is_crowded ranks crowded) lists d e a b both.0 both.1 r
      | inr past ↦
          let empty : length (nth lists e) ≡ 0 = ap (λ (xs : List Tag). length xs) (get_or_past lists e [] past) in
          absurd (omega (arith, empty, r.back.within))
    ]

-- a set that grows still accounts for a list
pub accounted-grown : {S R Q : Type 0} (ranks : HashMap Tag ℕ S) (owners : HashMap ℕ Tag Q) (old new : HashSet ℕ R) (xs : List Tag) → ((n : ℕ) → set_contains nat_eq old n ≡ true → set_contains nat_eq new n ≡ true) → IsAccounted ranks owners old xs → IsAccounted ranks owners new xs
accounted-grown ranks owners old new xs grows before = λ k d lt. elim (before k d lt) [ inl own ↦ inl own | inr c ↦ inr (grows (rank_of ranks (get_or xs k d)) c) ]

-- a set with one more number, by an element that does or does not own its rank
pub accounted-more : {S R Q : Type 0} (ranks : HashMap Tag ℕ S) (owners : HashMap ℕ Tag Q) (old new : HashSet ℕ R) (xs : List Tag) (i : ℕ) (c : Tag) → i < length xs → ((n : ℕ) → set_contains nat_eq old n ≡ true → set_contains nat_eq new n ≡ true)
    → (get nat_eq owners (rank_of ranks (get_or xs i c)) ≡ Some (get_or xs i c)) ⊎ IsTrue (is_crowded ranks new (get_or xs i c)) → IsAccounted ranks owners old (take i xs) → IsAccounted ranks owners new (take (i + 1) xs)
accounted-more ranks owners old new xs i c within grows here before =
    let P : Tag → Type 0 = λ a. (get nat_eq owners (rank_of ranks a) ≡ Some a) ⊎ IsTrue (is_crowded ranks new a) in
    All-more P xs i c within (accounted-grown ranks owners old new (take i xs) grows before) here

-- the same, for the lists that came before
pub lists-accounted-more : {S R Q : Type 0} (ranks : HashMap Tag ℕ S) (owners : HashMap ℕ Tag Q) (old new : HashSet ℕ R) (vs : List (Vec Tag Global)) (i : ℕ) (c : Vec Tag Global) → i < length vs → ((n : ℕ) → set_contains nat_eq old n ≡ true → set_contains nat_eq new n ≡ true)
    → IsAccounted ranks owners new (get_or vs i c).items → All (λ (v : Vec Tag Global). IsAccounted ranks owners old v.items) (take i vs) → All (λ (v : Vec Tag Global). IsAccounted ranks owners new v.items) (take (i + 1) vs)
lists-accounted-more ranks owners old new vs i c within grows here before =
    All-more (λ (v : Vec Tag Global). IsAccounted ranks owners new v.items) vs i c within (λ k d lt. accounted-grown ranks owners old new (get_or (take i vs) k d).items grows (before k d lt)) here

cond_true : (b t : Bool) → t ≡ true → cond b true t ≡ true
cond_true true t h = refl
cond_true false t h = h

-- a set after one number is put in
pub set-grows : {R : Type 0} (old new : HashSet ℕ R) (k : ℕ) → ((n : ℕ) → set_contains nat_eq new n ≡ cond (nat_eq k n) true (set_contains nat_eq old n)) → (n : ℕ) → set_contains nat_eq old n ≡ true → set_contains nat_eq new n ≡ true
set-grows old new k updates n h = updates n ∙ cond_true (nat_eq k n) (set_contains nat_eq old n) h

-- from the lists of the code to their items
pub all-items : (P : List Tag → Type 0) (vs : List (Vec Tag Global)) → All (λ (v : Vec Tag Global). P v.items) vs → All P (map (λ (v : Vec Tag Global). v.items) vs)
all-items P vs h = All-map P (λ (v : Vec Tag Global). v.items) vs h

pub match-weaker : {X : Type 0} (o : Option X) (P P' : Type 0) (Q Q' : X → Type 0) → (P → P') → ((x : X) → Q x → Q' x) → MatchOption o P Q → MatchOption o P' Q'
match-weaker None P P' Q Q' f g h = f h
match-weaker (Some x) P P' Q Q' f g h = g x h

abbrev pub items_of : List (Vec Tag Global) → List (List Tag)
items_of vs = map (λ (v : Vec Tag Global). v.items) vs

-- the search among the crowded parts is the search among the lists
pub search-by-rank : {S R Q : Type 0} (ranks : HashMap Tag ℕ S) (owners : HashMap ℕ Tag Q) (crowded : HashSet ℕ R) (vs ks : List (Vec Tag Global)) (found : Option Reversal)
    → All (λ (v : Vec Tag Global). NeverFalls ranks v.items) vs → All (λ (v : Vec Tag Global). IsAccounted ranks owners crowded v.items) vs → All (λ (v : Vec Tag Global). IsDistinct v.items) vs
    → items_of ks ≡ map (filter (is_crowded ranks crowded)) (items_of vs)
    → MatchOption found ((d e : ℕ) (a b : Tag) → ¬ IsReversed (items_of ks) d e a b) (λ r. IsReversed (items_of ks) r.earlier r.later r.a r.b)
    → MatchOption found ((d e : ℕ) (a b : Tag) → ¬ IsReversed (items_of vs) d e a b) (λ r. IsReversed (items_of vs) r.earlier r.later r.a r.b)
search-by-rank ranks owners crowded vs ks found rises accounted distinct same h =
    match-weaker found _ ((d e : ℕ) (a b : Tag) → ¬ IsReversed (items_of vs) d e a b) (λ r. IsReversed (items_of ks) r.earlier r.later r.a r.b) (λ r. IsReversed (items_of vs) r.earlier r.later r.a r.b)
    (λ none. λ d e a b r. none d e a b (subst (λ (xs : List (List Tag)). IsReversed xs d e a b) (sym same)
    (reversed-crowded ranks owners crowded (items_of vs) d e a b (all-items (λ (xs : List Tag). NeverFalls ranks xs) vs rises) (all-items (λ (xs : List Tag). IsAccounted ranks owners crowded xs) vs accounted) (all-items (λ (xs : List Tag). IsDistinct xs) vs distinct) r)))
    (λ r is. reversed-part (is_crowded ranks crowded) (items_of vs) r.earlier r.later r.a r.b (subst (λ (xs : List (List Tag)). IsReversed xs r.earlier r.later r.a r.b) same is)) h
