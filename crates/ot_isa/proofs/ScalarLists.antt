-- Unicode scalar values, list by list.
use Rattle.std.proofs.Common.{◌≡◌, ℕ, zero, suc, List, [], ◌∷◌, ◌++◌, true, refl, ap, map}
use Rattle.std.proofs.lemmas.Bool.{and_parts, and_from}
use Rattle.std.specs.Str.{all_scalars}
use Rattle.std.specs.Char.{IsScalar}
use Rattle.ot_operation.specs.Operation.{New, olds, news}

-- two texts of scalars in a row
all_scalars-append : (xs ys : List ℕ) → all_scalars xs ≡ true → all_scalars ys ≡ true → all_scalars (xs ++ ys) ≡ true
all_scalars-append [] ys x y = y
all_scalars-append (c ∷ xs) ys x y = let both = and_parts _ _ x in and_from _ _ both.0 (all_scalars-append xs ys both.1 y)

pub all_scalars-more : (xs : List ℕ) (c : ℕ) → all_scalars xs ≡ true → IsScalar c → all_scalars (xs ++ c ∷ []) ≡ true
all_scalars-more xs c x is = all_scalars-append xs (c ∷ []) x (and_from _ true is refl)

-- no new item among those that stay
pub olds_none : {A : Type 0} (from n : ℕ) → news (olds {A = A} from n) ≡ []
olds_none from zero = refl
olds_none from (suc n) = olds_none (suc from) n

pub news_map : {A : Type 0} (xs : List A) → news (map New xs) ≡ xs
news_map [] = refl
news_map {A} (x ∷ xs) = ap (λ (t : List A). x ∷ t) (news_map xs)
