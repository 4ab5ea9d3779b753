-- Lists item by item.
use Rattle.std.proofs.Common.{◌≡◌, ℕ, zero, suc, ◌+◌, ◌<◌, List, [], ◌∷◌, ◌++◌, length, take, get_or, refl, ap, add-one, arith, Some}
use Rattle.std.specs.Prelude.{slice_get}

-- one more item
pub take_more : {A : Type 0} (xs : List A) (i : ℕ) (x : A) → i < length xs → x ≡ get_or xs i x → take (suc i) xs ≡ take i xs ++ x ∷ []
take_more [] i x h e = absurd (omega arith)
take_more (y ∷ xs) zero x h e = rw e refl
take_more {A} (y ∷ xs) (suc i) x h e = ap (λ (t : List A). y ∷ t) (take_more xs i x (omega arith) e)

pub item_at : {A : Type 0} (xs : List A) (i : ℕ) (x : A) → i < length xs → x ≡ get_or xs i x → slice_get xs i ≡ Some x
item_at [] i x h e = absurd (omega arith)
item_at (y ∷ xs) zero x h e = rw e refl
item_at (y ∷ xs) (suc i) x h e = item_at xs i x (omega arith) e

some_is : {A : Type 0} (x y : A) → Some x ≡ Some y → x ≡ y
some_is x y e = cc

next_item : {A : Type 0} (xs : List A) (i : ℕ) (x : A) → slice_get xs i ≡ Some x → take (suc i) xs ≡ take i xs ++ x ∷ []
next_item [] i x e = absurd cc
next_item {A} (y ∷ xs) zero x e = ap (λ (o : A). o ∷ []) (some_is y x e)
next_item {A} (y ∷ xs) (suc i) x e = ap (λ (t : List A). y ∷ t) (next_item xs i x e)

pub take_got : {A : Type 0} (xs : List A) (i : ℕ) (x : A) → slice_get xs i ≡ Some x → take (i + 1) xs ≡ take i xs ++ x ∷ []
take_got xs i x e = rw add-one (next_item xs i x e)
