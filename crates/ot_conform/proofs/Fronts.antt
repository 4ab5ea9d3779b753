-- How many items at the front of two lists are equal.
use Rattle.std.proofs.Common.{◌≡◌, ℕ, suc, ◌+◌, ◌<◌, List, [], ◌∷◌, length, drop, get_or, true, false, refl, ap, ◌∙◌, arith, drop-cons}
use Rattle.std.specs.Prelude.{◌==◌}
use Rattle.ot_conform.specs.Answers.{same_front}

equal : (x y : ℕ) (xs ys : List ℕ) → (x == y) ≡ true → same_front (x ∷ xs) (y ∷ ys) ≡ suc (same_front xs ys)
equal x y xs ys e = rw e refl

other : (x y : ℕ) (xs ys : List ℕ) → (x == y) ≡ false → same_front (x ∷ xs) (y ∷ ys) ≡ 0
other x y xs ys e = rw e refl

none : (xs : List ℕ) → same_front xs [] ≡ 0
none [] = refl
none (x ∷ xs) = refl

cut : (xs ys : List ℕ) (i d : ℕ) → i < length xs → i < length ys
    → same_front (drop i xs) (drop i ys) ≡ same_front (get_or xs i d ∷ drop (suc i) xs) (get_or ys i d ∷ drop (suc i) ys)
cut xs ys i d in_xs in_ys = ap (λ (zs : List ℕ). same_front zs (drop i ys)) (drop-cons xs i d in_xs) ∙ ap (same_front (get_or xs i d ∷ drop (suc i) xs)) (drop-cons ys i d in_ys)

pub front_differs : (xs ys : List ℕ) (i d : ℕ) → i < length xs → i < length ys → (get_or xs i d == get_or ys i d) ≡ false → i + same_front (drop i xs) (drop i ys) ≡ i
front_differs xs ys i d in_xs in_ys e =
    let here : same_front (drop i xs) (drop i ys) ≡ 0 = cut xs ys i d in_xs in_ys ∙ other _ _ (drop (suc i) xs) (drop (suc i) ys) e in
    omega arith
