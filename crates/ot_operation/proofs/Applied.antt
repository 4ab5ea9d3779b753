-- What the runs of an operation give of a document.
use Rattle.std.proofs.Common.{◌≡◌, ℕ, zero, suc, ◌+◌, List, [], ◌∷◌, ◌++◌, map, take, drop, refl, ap, arith}
use Rattle.std.specs.Prelude.{slice_get}
use Rattle.std.specs.List.{filter_map, cons_option}
use Rattle.std.proofs.lemmas.List.Elements.{filter_map-append}
use Rattle.std.proofs.lemmas.List.{drop-drop}
use Rattle.ot_operation.specs.Operation.{Item, New, olds, value_in}
use Rattle.ot_operation.specs.Run.{Run, Keep, Add, Skip, image_from}

-- what an image gives of a document
abbrev pub values : {A : Type 0} → List (Item A) → List A → List A
values image d = filter_map (value_in d) image

pub values-append : {A : Type 0} (xs ys : List (Item A)) (d : List A) → values (xs ++ ys) d ≡ values xs d ++ values ys d
values-append xs ys d = filter_map-append (value_in d) xs ys

pub values-news : {A : Type 0} (s d : List A) → values (map New s) d ≡ s
values-news [] d = refl
values-news {A} (x ∷ s) d = ap (λ (t : List A). x ∷ t) (values-news s d)

one_more : {A : Type 0} (d : List A) (i n : ℕ) → cons_option (slice_get d i) (take n (drop (suc i) d)) ≡ take (suc n) (drop i d)
one_more [] zero zero = refl
one_more [] zero (suc n) = refl
one_more [] (suc i) zero = refl
one_more [] (suc i) (suc n) = refl
one_more (x ∷ d) zero n = refl
one_more (x ∷ d) (suc i) n = one_more d i n

pub values-olds : {A : Type 0} (i n : ℕ) (d : List A) → values (olds i n) d ≡ take n (drop i d)
values-olds i zero d = refl
values-olds i (suc n) d = rw (values-olds (suc i) n d) (one_more d i n)

-- runs from a later place of the base give of a document what they give of the rest of it
pub values-shift : {A : Type 0} (from m : ℕ) (rs : List (Run A)) (d : List A) → values (image_from (from + m) rs) d ≡ values (image_from from rs) (drop m d)
values-shift from m [] d = refl
values-shift from m (Keep n ∷ rs) d =
    let sum : from + m + n ≡ from + n + m = omega arith in
    let turned : from + m ≡ m + from = omega arith in
    rw (
      sum,
      values-append (olds (from + m) n) (image_from (from + n + m) rs) d,
      values-append (olds from n) (image_from (from + n) rs) (drop m d),
      values-olds (from + m) n d,
      values-olds from n (drop m d),
      values-shift (from + n) m rs d,
      drop-drop from m d,
      turned,
    )
    refl
values-shift from m (Add s ∷ rs) d =
    rw (
      values-append (map New s) (image_from (from + m) rs) d,
      values-append (map New s) (image_from from rs) (drop m d),
      values-news s d,
      values-news s (drop m d),
      values-shift from m rs d,
    )
    refl
values-shift from m (Skip n ∷ rs) d =
    let sum : from + m + n ≡ from + n + m = omega arith in
    rw (sum, values-shift (from + n) m rs d) refl
