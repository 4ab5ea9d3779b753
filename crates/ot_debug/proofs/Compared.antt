-- Whether an operation makes another list of a list: component by component, as far as the two are the same.
use Rattle.std.proofs.Common.{◌≡◌, ◌≢◌, ℕ, zero, suc, ◌+◌, ◌-◌, ◌<◌, ◌≤◌, List, [], ◌∷◌, ◌++◌, length, take, drop, min, refl, ap, sym, ◌∙◌, subst, arith, append_assoc, append-nil, Some, Bool, true, false, nat_eq}
use Rattle.std.proofs.lemmas.List.{drop-drop, length-drop, length-take, length-take-le, take_all}
use Rattle.std.proofs.lemmas.Option.{same_Some}
use Rattle.std.proofs.Math.Seq.{take-add}
use Rattle.std.specs.Prelude.{slice_get, MatchBool, not}
use Rattle.std.proofs.lemmas.Bool.{eqb-false, eqb-true}
use Rattle.ot_operation.specs.Operation.{Operation, apply}
use Rattle.ot_operation.specs.Run.{Run, Keep, Add, Skip, base_of, image_from, operation_of}
use Rattle.ot_operation.proofs.Applied.{values, values-append, values-news, values-olds, values-shift}

-- two lists compared element by element
head_of : {X : Type 0} (x y : X) (xs ys : List X) → x ∷ xs ≡ y ∷ ys → x ≡ y
head_of x y xs ys e = same_Some x y (ap (λ zs. slice_get zs 0) e)

tail_of : {X : Type 0} (x y : X) (xs ys : List X) → x ∷ xs ≡ y ∷ ys → xs ≡ ys
tail_of x y xs ys e = ap (drop 1) e

both : {X : Type 0} (x y : X) (xs ys : List X) → x ≡ y → xs ≡ ys → x ∷ xs ≡ y ∷ ys
both x y xs ys e f = rw (e, f) refl

pub same_more : {X : Type 0} (xs ys : List X) (k : ℕ) → take k xs ≡ take k ys → slice_get xs k ≡ slice_get ys k → take (suc k) xs ≡ take (suc k) ys
same_more [] [] k e at = refl
same_more [] (y ∷ ys) zero e at = absurd (cc)
same_more [] (y ∷ ys) (suc k) e at = absurd (cc)
same_more (x ∷ xs) [] zero e at = absurd (cc)
same_more (x ∷ xs) [] (suc k) e at = absurd (cc)
same_more (x ∷ xs) (y ∷ ys) zero e at = both x y [] [] (same_Some x y at) refl
same_more (x ∷ xs) (y ∷ ys) (suc k) e at =
    both x y (take (suc k) xs) (take (suc k) ys) (head_of x y (take k xs) (take k ys) e) (same_more xs ys k (tail_of x y (take k xs) (take k ys) e) at)

pub same_at : {X : Type 0} (xs ys : List X) (n k : ℕ) → take n xs ≡ take n ys → k < n → slice_get xs k ≡ slice_get ys k
same_at xs ys zero k e less = absurd (omega arith)
same_at [] [] (suc n) k e less = refl
same_at [] (y ∷ ys) (suc n) k e less = absurd (cc)
same_at (x ∷ xs) [] (suc n) k e less = absurd (cc)
same_at (x ∷ xs) (y ∷ ys) (suc n) zero e less = ap (λ z. Some z) (head_of x y (take n xs) (take n ys) e)
same_at (x ∷ xs) (y ∷ ys) (suc n) (suc k) e less = same_at xs ys n k (tail_of x y (take n xs) (take n ys) e) (omega arith)

pub get_behind : {X : Type 0} (xs : List X) (n k : ℕ) → slice_get (drop n xs) k ≡ slice_get xs (n + k)
get_behind xs zero k = ap (slice_get xs) (let e : k ≡ zero + k = omega arith in e)
get_behind [] (suc n) k = refl
get_behind (x ∷ xs) (suc n) k = get_behind xs n k ∙ ap (slice_get (x ∷ xs)) (let e : suc (n + k) ≡ suc n + k = omega arith in e)

-- what stands behind a front
behind_front : {X : Type 0} (front xs rest : List X) → drop (length front) ((front ++ xs) ++ rest) ≡ xs ++ rest
behind_front [] xs rest = refl
behind_front (x ∷ front) xs rest = behind_front front xs rest

front_of : {X : Type 0} (xs rest : List X) → take (length xs) (xs ++ rest) ≡ xs
front_of [] rest = refl
front_of (x ∷ xs) rest = ap (λ zs. x ∷ zs) (front_of xs rest)

stands_there : {X : Type 0} (list xs rest : List X) (to n : ℕ) → to ≤ length list → length xs ≡ n → (take to list ++ xs) ++ rest ≡ list → take n (drop to list) ≡ xs
stands_there list xs rest to n within many is =
    let front : length (take to list) ≡ to = length-take-le to list within in
    ap (λ (k : ℕ). take k (drop to list)) (sym many)
    ∙ ap (λ zs. take (length xs) (drop to zs)) (sym is)
    ∙ ap (λ (k : ℕ). take (length xs) (drop k ((take to list ++ xs) ++ rest))) (sym front)
    ∙ ap (take (length xs)) (behind_front (take to list) xs rest)
    ∙ front_of xs rest

length_there : {X : Type 0} (list : List X) (to n : ℕ) (xs : List X) → to ≤ length list → length xs ≡ n → take n (drop to list) ≡ xs → to + n ≤ length list
length_there list to n xs within many is =
    let e : min n (length (drop to list)) ≡ n = sym (length-take n (drop to list)) ∙ ap length is ∙ many in
    let f : length (drop to list) ≡ length list - to = length-drop to list in
    omega (arith, e, f, within)

-- what the components make of the list that are passed is its first part, up to the place `to`; those that are left are over what stands from `from` on
pub record IsSame {X : Type 0} (left : List (Run X)) (list : List X) (from to : ℕ) (whole : List X) : Type 0 where
  pub made : take to list ++ values (image_from 0 left) (drop from list) ≡ whole
  pub fits : from + base_of left ≡ length list
  pub to_in : to ≤ length list

pub begun : {X : Type 0} (left : List (Run X)) (list : List X) (op : Operation X) → operation_of left ≡ op → op.base ≡ length list → IsSame left list 0 0 (apply op list)
unfolding apply
begun left list op spells base =
    record {
      made = ap (λ o. apply o list) spells;
      fits = let e = ap (λ o. o.base) spells in omega (arith, e, base);
      to_in = omega arith;
    }

module _ {X : Type 0} (left next : List (Run X)) (list whole : List X) (from to : ℕ) (same : IsSame left list from to whole) where
  -- a retain
  module _ (n : ℕ) (is : left ≡ Keep n ∷ next) where
    -- it stays within the list
    pub retained_in : from + n ≤ length list
    retained_in = let f = rw is at same.fits in omega (arith, f)

    retained : (take to list ++ take n (drop from list)) ++ values (image_from 0 next) (drop (from + n) list) ≡ whole
    retained =
        let m = rw (is, values-append, values-olds, values-shift 0 n next (drop from list), drop-drop n from list) at same.made in
        append_assoc (take to list) (take n (drop from list)) _ ∙ m

    retained_length : length (take n (drop from list)) ≡ n
    retained_length = length-take-le n (drop from list) (let e = retained_in in let f : length (drop from list) ≡ length list - from = length-drop from list in omega (arith, e, f))

    pub retained_same : take n (drop from list) ≡ take n (drop to list) → IsSame next list (from + n) (to + n) whole
    retained_same repeats =
        record {
          made = ap (λ xs. xs ++ values (image_from 0 next) (drop (from + n) list)) (take-add to n list ∙ ap (λ xs. take to list ++ xs) (sym repeats)) ∙ retained;
          fits = let f = rw is at same.fits in omega (arith, f);
          to_in = let e = length_there list to n (take n (drop from list)) same.to_in retained_length (sym repeats) in omega (arith, e);
        }

    pub retained_other : take n (drop from list) ≢ take n (drop to list) → whole ≢ list
    retained_other other e = other (sym (stands_there list (take n (drop from list)) _ to n same.to_in retained_length (retained ∙ e)))

  -- an insertion
  module _ (text : List X) (is : left ≡ Add text ∷ next) where
    inserted : (take to list ++ text) ++ values (image_from 0 next) (drop from list) ≡ whole
    inserted = let m = rw (is, values-append, values-news) at same.made in append_assoc (take to list) text _ ∙ m

    pub inserted_in : take (length text) (drop to list) ≡ text → to + length text ≤ length list
    inserted_in stands = length_there list to (length text) text same.to_in refl stands

    pub inserted_same : take (length text) (drop to list) ≡ text → IsSame next list from (to + length text) whole
    inserted_same stands =
        record {
          made = ap (λ xs. xs ++ values (image_from 0 next) (drop from list)) (take-add to (length text) list ∙ ap (λ xs. take to list ++ xs) stands) ∙ inserted;
          fits = let f = rw is at same.fits in omega (arith, f);
          to_in = inserted_in stands;
        }

    pub inserted_other : take (length text) (drop to list) ≢ text → whole ≢ list
    inserted_other other e = other (stands_there list text _ to (length text) same.to_in refl (inserted ∙ e))

  -- a deletion
  module _ (n : ℕ) (is : left ≡ Skip n ∷ next) where
    pub deleted_in : from + n ≤ length list
    deleted_in = let f = rw is at same.fits in omega (arith, f)

    pub deleted_same : IsSame next list (from + n) to whole
    deleted_same =
        record {
          made = rw (is, values-shift 0 n next (drop from list), drop-drop n from list) at same.made;
          fits = let f = rw is at same.fits in omega (arith, f);
          to_in = same.to_in;
        }

-- at the end what was made is the list, where it is as long
module _ {X : Type 0} (left : List (Run X)) (list whole : List X) (from to : ℕ) (past : left ≡ []) (same : IsSame left list from to whole) where
  made : take to list ≡ whole
  made = sym (append-nil (take to list)) ∙ (rw past at same.made)

  all_same : to ≡ length list → whole ≡ list
  all_same all = sym made ∙ take_all to list (omega (arith, all))

  shorter : to ≢ length list → whole ≢ list
  shorter other e =
      let m : min to (length list) ≡ length list = sym (length-take to list) ∙ ap length (made ∙ e) in
      let within = same.to_in in
      other (omega (arith, m, within))

  pub finished : (n : ℕ) (b : Bool) → n ≡ length list → nat_eq to n ≡ b → MatchBool (not b) (whole ≢ list) (whole ≡ list)
  finished n true size e = all_same (eqb-true to n e ∙ size)
  finished n false size e = shorter (λ f. eqb-false to n e (f ∙ sym size))

-- ---- the comparisons

module _ {X : Type 0} (list : List X) (from to i count : ℕ) where
  same_there : slice_get list (from + i) ≡ slice_get list (to + i) → slice_get (drop from list) i ≡ slice_get (drop to list) i
  same_there e = get_behind list from i ∙ e ∙ sym (get_behind list to i)

  pub repeats_more : take i (drop from list) ≡ take i (drop to list) → slice_get list (from + i) ≡ slice_get list (to + i) → take (i + 1) (drop from list) ≡ take (i + 1) (drop to list)
  repeats_more so e =
      let on : suc i ≡ i + 1 = omega arith in
      subst (λ n. take n (drop from list) ≡ take n (drop to list)) on (same_more (drop from list) (drop to list) i so (same_there e))

  pub repeats_not : i < count → slice_get list (from + i) ≢ slice_get list (to + i) → take count (drop from list) ≢ take count (drop to list)
  repeats_not less other e = other (sym (get_behind list from i) ∙ same_at (drop from list) (drop to list) count i e less ∙ get_behind list to i)

module _ {X : Type 0} (list text : List X) (to i : ℕ) where
  pub text_more : take i (drop to list) ≡ take i text → slice_get list (to + i) ≡ slice_get text i → take (i + 1) (drop to list) ≡ take (i + 1) text
  text_more so e =
      let on : suc i ≡ i + 1 = omega arith in
      subst (λ n. take n (drop to list) ≡ take n text) on (same_more (drop to list) text i so (get_behind list to i ∙ e))

  pub text_not : i < length text → slice_get list (to + i) ≢ slice_get text i → take (length text) (drop to list) ≢ text
  text_not less other e = other (sym (get_behind list to i) ∙ same_at (drop to list) text (length text) i (e ∙ sym (take_all (length text) text (omega arith))) less)
