-- Seats along lists.
use Rattle.std.proofs.Common.{◌≡◌, ℕ, ◌+◌, ◌<◌, ◌≤◌, List, [], ◌∷◌, ◌++◌, length, get_or, ap, sym, ◌∙◌, arith, inl, inr, refl, subst}
use Rattle.std.proofs.lemmas.Bool.{cases_lt}
use Rattle.std.proofs.lemmas.List.{get_or_append_left, get_or_default, get_or_push, length-append}
use Rattle.ot_judge.specs.declared.seats.Seat.{Seat}
use Rattle.ot_model.specs.WeakList.{IsBefore}
use Rattle.ot_judge.specs.Seats.{Agree, AgreesAt, Falls, FallsNowhere, IsIn, IsSeated, KeepsFalls, seat_of}

abbrev pub place_of : List Seat → ℕ → ℕ
place_of seats n = (seat_of seats n).place

-- ---- lists that are seated

-- the places of the first i elements rise, the last of them to last, and these stand in the list of this turn
pub record SeatedTo (seats : List Seat) (xs : List ℕ) (turn i last : ℕ) : Type 0 where
  pub below : (k d : ℕ) → k < i → k < length xs → place_of seats (get_or xs k d) ≤ last
  pub rising : (j k d : ℕ) → j < k → k < i → k < length xs → place_of seats (get_or xs j d) < place_of seats (get_or xs k d)
  pub held : (k d : ℕ) → k < i → k < length xs → ((seat_of seats (get_or xs k d)).first ≤ turn) × (turn < (seat_of seats (get_or xs k d)).past)

here-is : {X : Type 0} (f : ℕ → X) (xs : List ℕ) (i k c d : ℕ) → i < length xs → k ≡ i → f (get_or xs k d) ≡ f (get_or xs i c)
here-is f xs i k c d within same = ap (λ (n : ℕ). f (get_or xs n d)) same ∙ ap f (get_or_default xs i d c within)

-- ---- what is seen of two elements of a list

first-in : {xs : List ℕ} {a b : ℕ} → (h : IsBefore xs a b) → h.first < length xs
first-in h = omega (arith, h.order, h.within)

-- the elements stand where they are found, whatever stands past the end
second-is : (xs : List ℕ) (a b : ℕ) (h : IsBefore xs a b) → get_or xs h.second a ≡ b
second-is xs a b h = get_or_default xs h.second a b h.within ∙ h.there

-- two elements of a seated list have places that rise
pub seated-up : (seats : List Seat) (ys : List ℕ) (turn a b : ℕ) → IsSeated seats ys turn → IsBefore ys a b → place_of seats a < place_of seats b
seated-up seats ys turn a b seated h =
    let up = seated.climbs h.first h.second a h.order h.within in
    omega (arith, up, ap (place_of seats) h.here, ap (place_of seats) (second-is ys a b h))

-- and both stand in that list
pub seated-in : (seats : List Seat) (ys : List ℕ) (from to turn a b : ℕ) → from ≤ turn → turn < to → IsSeated seats ys turn → IsBefore ys a b → IsIn (seat_of seats a) from to × IsIn (seat_of seats b) from to
seated-in seats ys from to turn a b low high seated h =
    let one = subst (λ (n : ℕ). ((seat_of seats n).first ≤ turn) × (turn < (seat_of seats n).past)) h.here (seated.held h.first a (first-in h)) in
    let two = subst (λ (n : ℕ). ((seat_of seats n).first ≤ turn) × (turn < (seat_of seats n).past)) (second-is ys a b h) (seated.held h.second a h.within) in
    ((omega (arith, one.0, high), omega (arith, one.1, low)), (omega (arith, two.0, high), omega (arith, two.1, low)))

-- two lists that are seated agree
pub agree-seated : (seats : List Seat) (xs ys : List ℕ) (i j : ℕ) → IsSeated seats xs i → IsSeated seats ys j → Agree xs ys
agree-seated seats xs ys i j sx sy = λ a b forth back. omega (arith, seated-up seats xs i a b sx forth, seated-up seats ys j b a sy back)

-- two elements of a list that a seated list has in the other order fall
pub reversed-falls : (seats : List Seat) (ys : List ℕ) (from to turn a b : ℕ) → from ≤ turn → turn < to → IsSeated seats ys turn → IsBefore ys b a → Falls seats from to a b
reversed-falls seats ys from to turn a b low high seated back =
    let stands = seated-in seats ys from to turn b a low high seated back in
    record { here = stands.1; there = stands.0; down = seated-up seats ys turn b a seated back }

pub agrees-nowhere : (seats : List Seat) (xs : List ℕ) (from to : ℕ) → FallsNowhere seats from to xs → AgreesAt seats xs from to
agrees-nowhere seats xs from to nowhere = λ turn ys low high seated a b forth back. nowhere a b forth (reversed-falls seats ys from to turn a b low high seated back)

-- what agrees by what is kept of a list agrees by the whole list
pub agrees-kept : (seats : List Seat) (xs kept : List ℕ) (from to start end : ℕ) → KeepsFalls seats from to xs kept → from ≤ start → end ≤ to → AgreesAt seats kept start end → AgreesAt seats xs start end
agrees-kept seats xs kept from to start end keeps low high agrees = λ turn ys after before seated a b forth back.
    agrees turn ys after before seated a b (keeps a b forth (reversed-falls seats ys from to turn a b (omega (arith, low, after)) (omega (arith, high, before)) seated back)) back

pub agrees-halves : (seats : List Seat) (xs : List ℕ) (from middle to : ℕ) → AgreesAt seats xs from middle → AgreesAt seats xs middle to → AgreesAt seats xs from to
agrees-halves seats xs from middle to one two = λ turn ys low high seated. elim (cases_lt turn middle) [
  | inl before ↦ one turn ys low before seated
  | inr after ↦ two turn ys after high seated
]

-- ---- places that fall nowhere

pub record NoneFalls (seats : List Seat) (xs : List ℕ) (from to i highest : ℕ) : Type 0 where
  pub below : (k d : ℕ) → k < i → k < length xs → IsIn (seat_of seats (get_or xs k d)) from to → place_of seats (get_or xs k d) ≤ highest
  pub rising : (j k d : ℕ) → j < k → k < i → k < length xs → IsIn (seat_of seats (get_or xs j d)) from to → IsIn (seat_of seats (get_or xs k d)) from to → place_of seats (get_or xs j d) ≤ place_of seats (get_or xs k d)

pub none-more : (seats : List Seat) (xs : List ℕ) (from to i highest c : ℕ) (seat : Seat) → i < length xs → seat ≡ seat_of seats (get_or xs i c) → highest ≤ seat.place → NoneFalls seats xs from to i highest → NoneFalls seats xs from to (i + 1) seat.place
none-more seats xs from to i highest c seat within is up r =
    let at = ap (λ (s : Seat). s.place) is in
    record {
      below = λ k d lt inside stands. elim (cases_lt k i) [
        | inl before ↦ omega (arith, r.below k d before inside stands, up)
        | inr after ↦ let same = here-is (place_of seats) xs i k c d within (omega (arith, after, lt)) in omega (arith, same, at)
      ];
      rising = λ j k d jk lt inside in_j in_k. elim (cases_lt k i) [
        | inl before ↦ r.rising j k d jk before inside in_j in_k
        | inr after ↦ let same = here-is (place_of seats) xs i k c d within (omega (arith, after, lt)) in omega (arith, same, at, up, r.below j d (omega (arith, jk, lt)) (omega (arith, jk, inside)) in_j)
      ];
    }

pub none-past : (seats : List Seat) (xs : List ℕ) (from to i highest c : ℕ) (seat : Seat) → i < length xs → seat ≡ seat_of seats (get_or xs i c) → ¬ IsIn seat from to → NoneFalls seats xs from to i highest → NoneFalls seats xs from to (i + 1) highest
none-past seats xs from to i highest c seat within is out r =
    let no : (k d : ℕ) → k ≡ i → ¬ IsIn (seat_of seats (get_or xs k d)) from to = λ k d same stands. out (subst (λ (s : Seat). IsIn s from to) (here-is (seat_of seats) xs i k c d within same ∙ sym is) stands) in
    record {
      below = λ k d lt inside stands. elim (cases_lt k i) [
        | inl before ↦ r.below k d before inside stands
        | inr after ↦ absurd (no k d (omega (arith, after, lt)) stands)
      ];
      rising = λ j k d jk lt inside in_j in_k. elim (cases_lt k i) [
        | inl before ↦ r.rising j k d jk before inside in_j in_k
        | inr after ↦ absurd (no k d (omega (arith, after, lt)) in_k)
      ];
    }

-- at two places of a list
pub falls-at : (seats : List Seat) (xs : List ℕ) (from to a b : ℕ) (h : IsBefore xs a b) → Falls seats from to a b → Falls seats from to (get_or xs h.first a) (get_or xs h.second a)
falls-at seats xs from to a b h f = subst (λ (m : ℕ). Falls seats from to m (get_or xs h.second a)) (sym h.here) (subst (λ (n : ℕ). Falls seats from to a n) (sym (second-is xs a b h)) f)

pub nowhere-all : (seats : List Seat) (xs : List ℕ) (from to highest : ℕ) → NoneFalls seats xs from to (length xs) highest → FallsNowhere seats from to xs
nowhere-all seats xs from to highest r = λ a b h f.
    let f' = falls-at seats xs from to a b h f in
    omega (arith, f'.down, r.rising h.first h.second a h.order h.within h.within f'.here f'.there)

-- ---- the least place behind each element

pub record LeastBehind (seats : List Seat) (xs behind : List ℕ) (from to i least : ℕ) : Type 0 where
  pub long : length behind ≡ length xs
  pub within : i ≤ length xs
  pub lowest : (j : ℕ) → i ≤ j → j < length xs → IsIn (seat_of seats (get_or xs j 0)) from to → least ≤ place_of seats (get_or xs j 0)
  pub done : (k j : ℕ) → i ≤ k → k < j → j < length xs → IsIn (seat_of seats (get_or xs j 0)) from to → get_or behind k 0 ≤ place_of seats (get_or xs j 0)

-- ---- what is kept of a list

pub record KeptFalls (seats : List Seat) (xs behind kept : List ℕ) (from to i highest : ℕ) : Type 0 where
  pub high : (j : ℕ) → j < i → j < length xs → IsIn (seat_of seats (get_or xs j 0)) from to → place_of seats (get_or xs j 0) ≤ highest
  pub some : (j : ℕ) → j < i → j < length xs → IsIn (seat_of seats (get_or xs j 0)) from to → get_or behind j 0 < place_of seats (get_or xs j 0) → (k : ℕ) × (k < length kept) × (get_or kept k 0 ≡ get_or xs j 0)
  pub pairs : (j k : ℕ) → j < k → k < i → k < length xs → Falls seats from to (get_or xs j 0) (get_or xs k 0) → IsBefore kept (get_or xs j 0) (get_or xs k 0)

before-grown : (xs : List ℕ) (x a b : ℕ) → IsBefore xs a b → IsBefore (xs ++ x ∷ []) a b
before-grown xs x a b h = record {
  first = h.first;
  second = h.second;
  order = h.order;
  within = omega (arith, h.within, length-append xs (x ∷ []));
  here = get_or_append_left xs (x ∷ []) a h.first (first-in h) ∙ h.here;
  there = get_or_append_left xs (x ∷ []) b h.second h.within ∙ h.there;
}

before-last : (xs : List ℕ) (x a k : ℕ) → k < length xs → get_or xs k 0 ≡ a → IsBefore (xs ++ x ∷ []) a x
before-last xs x a k lt is = record {
  first = k;
  second = length xs;
  order = lt;
  within = omega (arith, length-append xs (x ∷ []));
  here = get_or_append_left xs (x ∷ []) a k lt ∙ get_or_default xs k a 0 lt ∙ is;
  there = get_or_push xs x x (length xs) refl;
}

pub kept-more : (seats : List Seat) (xs behind kept new : List ℕ) (from to i highest next x : ℕ) → i < length xs → x ≡ get_or xs i 0 → new ≡ kept ++ x ∷ [] → highest ≤ next → (IsIn (seat_of seats x) from to → place_of seats x ≤ next)
    → ((k j : ℕ) → k < j → j < length xs → IsIn (seat_of seats (get_or xs j 0)) from to → get_or behind k 0 ≤ place_of seats (get_or xs j 0)) → KeptFalls seats xs behind kept from to i highest → KeptFalls seats xs behind new from to (i + 1) next
kept-more seats xs behind kept new from to i highest next x within at is more here least r =
    let now : (j : ℕ) → j ≡ i → get_or xs j 0 ≡ x = λ j same. here-is (λ (n : ℕ). n) xs i j 0 0 within same ∙ sym at in
    let long = ap (λ (ys : List ℕ). length ys) is ∙ length-append kept (x ∷ []) in
    record {
      high = λ j lt inside stands. elim (cases_lt j i) [
        | inl before ↦ omega (arith, more, r.high j before inside stands)
        | inr after ↦
            let same = now j (omega (arith, lt, after)) in
            omega (arith, here (subst (λ (n : ℕ). IsIn (seat_of seats n) from to) same stands), ap (place_of seats) same)
      ];
      some = λ j lt inside stands low. elim (cases_lt j i) [
        | inl before ↦
            let w = r.some j before inside stands low in
            (w.0, omega (arith, w.1, long), ap (λ (ys : List ℕ). get_or ys w.0 0) is ∙ get_or_append_left kept (x ∷ []) 0 w.0 w.1 ∙ w.2)
        | inr after ↦ (length kept, omega (arith, long), ap (λ (ys : List ℕ). get_or ys (length kept) 0) is ∙ get_or_push kept x 0 (length kept) refl ∙ sym (now j (omega (arith, lt, after))))
      ];
      pairs = λ j k less lt inside f. elim (cases_lt k i) [
        | inl before ↦ subst (λ (ys : List ℕ). IsBefore ys (get_or xs j 0) (get_or xs k 0)) (sym is) (before-grown kept x _ _ (r.pairs j k less before inside f))
        | inr after ↦
            let low = least j k less inside f.there in
            let w = r.some j (omega (arith, less, lt)) (omega (arith, less, inside)) f.here (omega (arith, low, f.down)) in
            let last = before-last kept x (get_or xs j 0) w.0 w.1 w.2 in
            subst (λ (n : ℕ). IsBefore new (get_or xs j 0) n) (sym (now k (omega (arith, lt, after)))) (subst (λ (ys : List ℕ). IsBefore ys (get_or xs j 0) x) (sym is) last)
      ];
    }

pub kept-past : (seats : List Seat) (xs behind kept : List ℕ) (from to i highest next x : ℕ) → i < length xs → x ≡ get_or xs i 0 → highest ≤ next → (IsIn (seat_of seats x) from to → place_of seats x ≤ next)
    → (IsIn (seat_of seats x) from to → ¬ (place_of seats x < highest)) → (IsIn (seat_of seats x) from to → ¬ (get_or behind i 0 < place_of seats x)) → KeptFalls seats xs behind kept from to i highest → KeptFalls seats xs behind kept from to (i + 1) next
kept-past seats xs behind kept from to i highest next x within at more here not_behind not_before r =
    let now : (j : ℕ) → j ≡ i → get_or xs j 0 ≡ x = λ j same. here-is (λ (n : ℕ). n) xs i j 0 0 within same ∙ sym at in
    let in_now : (j : ℕ) → j ≡ i → IsIn (seat_of seats (get_or xs j 0)) from to → IsIn (seat_of seats x) from to = λ j same stands. subst (λ (n : ℕ). IsIn (seat_of seats n) from to) (now j same) stands in
    record {
      high = λ j lt inside stands. elim (cases_lt j i) [
        | inl before ↦ omega (arith, more, r.high j before inside stands)
        | inr after ↦ let same : j ≡ i = omega (arith, lt, after) in omega (arith, here (in_now j same stands), ap (place_of seats) (now j same))
      ];
      some = λ j lt inside stands low. elim (cases_lt j i) [
        | inl before ↦ r.some j before inside stands low
        | inr after ↦
            let same : j ≡ i = omega (arith, lt, after) in
            absurd (not_before (in_now j same stands) (omega (arith, low, ap (λ (n : ℕ). get_or behind n 0) same, ap (place_of seats) (now j same))))
      ];
      pairs = λ j k less lt inside f. elim (cases_lt k i) [
        | inl before ↦ r.pairs j k less before inside f
        | inr after ↦
            let same : k ≡ i = omega (arith, lt, after) in
            let high = r.high j (omega (arith, less, lt)) (omega (arith, less, inside)) f.here in
            absurd (not_behind (in_now k same f.there) (omega (arith, high, f.down, ap (place_of seats) (now k same))))
      ];
    }

pub kept-all : (seats : List Seat) (xs behind kept : List ℕ) (from to highest : ℕ) → KeptFalls seats xs behind kept from to (length xs) highest → KeepsFalls seats from to xs kept
kept-all seats xs behind kept from to highest r = λ a b h f.
    let here = get_or_default xs h.first 0 a (first-in h) ∙ h.here in
    let there = get_or_default xs h.second 0 b h.within ∙ h.there in
    let f' = subst (λ (m : ℕ). Falls seats from to m (get_or xs h.second 0)) (sym here) (subst (λ (n : ℕ). Falls seats from to a n) (sym there) f) in
    let k = r.pairs h.first h.second h.order h.within h.within f' in
    subst (λ (n : ℕ). IsBefore kept a n) there (subst (λ (m : ℕ). IsBefore kept m (get_or xs h.second 0)) here k)
