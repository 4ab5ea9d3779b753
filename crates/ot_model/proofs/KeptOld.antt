-- What two operations both keep stays in the transformed one.
use Rattle.std.proofs.Common.{◌≡◌, ℕ, suc, zero, ◌+◌, ◌<◌, ◌≤◌, List, [], ◌∷◌, ◌++◌, length, map, Bool, true, false, cond, Option, Some, None, refl, sym, ap, ◌∙◌, subst, arith, inl, inr, nat_eq}
use Rattle.std.proofs.lemmas.Bool.{cases_eq, eq-eqb}
use Rattle.std.specs.Prelude.{◌⊎◌}
use Rattle.std.specs.List.{filter_map, slice_get, cons_option}
use Rattle.ot_operation.specs.Operation.{Item, Old, New, Operation, RisesFrom, IsOperation, apply, invert, value_in, place_from, place_of}
use Rattle.ot_operation.specs.Compose.{compose}
use Rattle.ot_operation.specs.Merge.{Merged, First, Second, Both, gap, kept_by_both, merge_at, merge_from, merge, unmarked, merged, first_after, second_after}
use Rattle.ot_operation.proofs.ComposeLaws.{apply-compose}
use Rattle.ot_operation.proofs.TransformLaws.{compose-first_after}

-- the image has Old i
abbrev pub HasOld : {A : Type 0} → ℕ → List (Item A) → Type 0
HasOld i [] = ⊥
HasOld i (Old j ∷ image) = (j ≡ i) ⊎ HasOld i image
HasOld i (New x ∷ image) = HasOld i image

abbrev pub IsIn : {A : Type 0} → A → List A → Type 0
IsIn x [] = ⊥
IsIn x (y ∷ ys) = (y ≡ x) ⊎ IsIn x ys

old_below : {A : Type 0} (low base i : ℕ) (image : List (Item A)) → RisesFrom low base image → HasOld i image → i < base
old_below low base i [] rises h = absurd h
old_below low base i (New x ∷ image) rises h = old_below low base i image rises h
old_below low base i (Old j ∷ image) rises (inl here) = let b = rises.1 in omega arith
old_below low base i (Old j ∷ image) rises (inr there) = old_below (suc j) base i image rises.2 there

placed : {A : Type 0} (place i : ℕ) (image : List (Item A)) → HasOld i image → (p : ℕ) × (place_from place image i ≡ Some p)
placed place i [] h = absurd h
placed place i (New x ∷ image) h = placed (suc place) i image h
placed place i (Old j ∷ image) h = go (nat_eq j i) refl (λ k. placed (suc place) i image k) h
  where
    go : (b : Bool) → nat_eq j i ≡ b → (HasOld i image → (p : ℕ) × (place_from (suc place) image i ≡ Some p)) → (j ≡ i) ⊎ HasOld i image → (p : ℕ) × (cond b (Some place) (place_from (suc place) image i) ≡ Some p)
    go true e later h = (place, refl)
    go false e later (inl here) = absurd (let same = eq-eqb j i here in let wrong : true ≡ false = sym same ∙ e in cc)
    go false e later (inr there) = later there

old_right : {A : Type 0} (i : ℕ) (xs ys : List (Merged A)) → HasOld i (map unmarked ys) → HasOld i (map unmarked (xs ++ ys))
old_right i [] ys h = h
old_right i (First p x ∷ xs) ys h = old_right i xs ys h
old_right i (Second p x ∷ xs) ys h = old_right i xs ys h
old_right i (Both j p q ∷ xs) ys h = inr (old_right i xs ys h)

old_left : {A : Type 0} (i : ℕ) (xs ys : List (Merged A)) → HasOld i (map unmarked xs) → HasOld i (map unmarked (xs ++ ys))
old_left i [] ys h = absurd h
old_left i (First p x ∷ xs) ys h = old_left i xs ys h
old_left i (Second p x ∷ xs) ys h = old_left i xs ys h
old_left i (Both j p q ∷ xs) ys (inl here) = inl here
old_left i (Both j p q ∷ xs) ys (inr there) = inr (old_left i xs ys there)

merged_here : {A : Type 0} (a b : List (Item A)) (i p q : ℕ) → place_of a i ≡ Some p → place_of b i ≡ Some q → HasOld i (map unmarked (merge_at a b i))
merged_here a b i p q e f =
    old_right i (gap First a i ++ gap Second b i) (kept_by_both i (place_of a i) (place_of b i)) (rw (e, f) (inl refl))

merged_old : {A : Type 0} (a b : List (Item A)) (k n i p q : ℕ) → k ≤ i → i ≤ k + n → place_of a i ≡ Some p → place_of b i ≡ Some q → HasOld i (map unmarked (merge_from a b k n))
merged_old a b k zero i p q low high e f = let same : i ≡ k = omega arith in subst (λ (m : ℕ). HasOld i (map unmarked (merge_at a b m))) same (merged_here a b i p q e f)
merged_old a b k (suc n) i p q low high e f = elim (cases_eq i k) [
  | inl same ↦ old_left i (merge_at a b k) (merge_from a b (suc k) n) (subst (λ (m : ℕ). HasOld i (map unmarked (merge_at a b m))) same (merged_here a b i p q e f))
  | inr other ↦ old_right i (merge_at a b k) (merge_from a b (suc k) n) (merged_old a b (suc k) n i p q (omega arith) (omega arith) e f)
]

is_in : {A : Type 0} (i : ℕ) (image : List (Item A)) (document : List A) (x : A) → HasOld i image → slice_get document i ≡ Some x → IsIn x (filter_map (value_in document) image)
is_in i [] document x h e = h
is_in i (New y ∷ image) document x h e = inr (is_in i image document x h e)
is_in {A} i (Old j ∷ image) document x (inl here) e =
    subst (λ (o : Option A). IsIn x (cons_option o (filter_map (value_in document) image))) (sym (ap (slice_get document) here ∙ e)) (inl refl)
is_in i (Old j ∷ image) document x (inr there) e = right (slice_get document j) (is_in i image document x there e)
  where
    right : (o : Option _) → IsIn x (filter_map (value_in document) image) → IsIn x (cons_option o (filter_map (value_in document) image))
    right None h = h
    right (Some y) h = inr h

pub keeps_old : {A : Type 0} (a b : Operation A) (document : List A) (i : ℕ) (x : A)
    → IsOperation a → IsOperation b → a.base ≡ length document → b.base ≡ length document
    → slice_get document i ≡ Some x → HasOld i a.image → HasOld i b.image
    → IsIn x (apply (first_after a b) (apply b document))
unfolding apply compose invert merge merged first_after second_after
keeps_old a b document i x a_rises b_rises a_fits b_fits at in_a in_b =
    let p = placed 0 i a.image in_a in
    let q = placed 0 i b.image in_b in
    let below = old_below 0 a.base i a.image a_rises in_a in
    let merged_in = is_in i (map unmarked (merge a b)) document x (merged_old a.image b.image 0 a.base i p.0 q.0 (omega arith) (omega arith) p.1 q.1) at in
    let same : apply (first_after a b) (apply b document) ≡ apply (merged a b) document = sym (apply-compose b (first_after a b) document b_rises b_fits) ∙ ap (λ op. apply op document) (compose-first_after a b (a_fits ∙ sym b_fits)) in
    subst (λ w. IsIn x w) (sym same) merged_in
