-- The law of transform: both orders make the merge.
use Rattle.std.proofs.Common.{◌≡◌, ℕ, suc, zero, List, [], ◌∷◌, ◌++◌, length, map, true, false, cond, Option, Some, None, refl, sym, ap, ◌∙◌, arith, nat_eq}
use Rattle.std.specs.List.{filter_map, slice_get}
use Rattle.ot_operation.specs.Operation.{Item, Operation, IsOperation, apply, place_of, Old, New, invert}
use Rattle.ot_operation.specs.Compose.{compose, item_in}
use Rattle.ot_operation.specs.Merge.{Merged, gap_from, kept_by_both, merge_at, merge_from, merge, unmarked, over_first, over_second, merged, first_after, second_after}
use Rattle.ot_operation.specs.Merge.Merged.{First, Second, Both}
use Rattle.ot_operation.proofs.InvertLaws.{place_stands}
use Rattle.ot_operation.proofs.Lists.{Each, Each-append, StandsAt, StandsAt-tail, StandsAt-whole}
use Rattle.ot_operation.proofs.ComposeLaws.{apply-compose}

-- the item stands at its places in both images
abbrev pub IsPlaced : {A : Type 0} → List (Item A) → List (Item A) → Merged A → Type 0
IsPlaced a b (First place x) = slice_get a place ≡ Some (New x)
IsPlaced a b (Second place x) = slice_get b place ≡ Some (New x)
IsPlaced a b (Both i place_first place_second) = (slice_get a place_first ≡ Some (Old i)) × (slice_get b place_second ≡ Some (Old i))

gap_placed :
    {A : Type 0} (mark : ℕ → A → Merged A) (P : Merged A → Type 0) (whole : List (Item A))
    → ((place : ℕ) (x : A) → slice_get whole place ≡ Some (New x) → P (mark place x))
    → (place at : ℕ) (image : List (Item A)) (i : ℕ) → StandsAt whole place image → Each P (gap_from mark place at image i)
gap_placed mark P whole holds place at [] i stands = tt
gap_placed mark P whole holds place at (Old j ∷ image) i stands =
    gap_placed mark P whole holds (suc place) (suc j) image i (StandsAt-tail whole place (Old j) image stands)
gap_placed {A} mark P whole holds place at (New x ∷ image) i stands =
    let rest : Each P (gap_from mark (suc place) at image i) =
    gap_placed mark P whole holds (suc place) at image i (StandsAt-tail whole place (New x) image stands) in
    let here : P (mark place x) = holds place x (stands place zero (omega arith)) in
    elim (nat_eq at i) as (λ b. Each P (cond b (mark place x ∷ gap_from mark (suc place) at image i) (gap_from mark (suc place) at image i)))
    [ true ↦ (here, rest) | false ↦ rest ]

kept_placed :
    {A : Type 0} (a b : List (Item A)) (i : ℕ) (p q : Option ℕ) → place_of a i ≡ p → place_of b i ≡ q
    → Each (IsPlaced a b) (kept_by_both i p q)
kept_placed a b i None q e f = tt
kept_placed a b i (Some p) None e f = tt
kept_placed a b i (Some p) (Some q) e f =
    ((place_stands a 0 a i (StandsAt-whole a) p e, place_stands b 0 b i (StandsAt-whole b) q f), tt)

merge_at_placed : {A : Type 0} (a b : List (Item A)) (i : ℕ) → Each (IsPlaced a b) (merge_at a b i)
merge_at_placed a b i =
    let in_first : Each (IsPlaced a b) (gap_from First 0 0 a i) =
    gap_placed First (IsPlaced a b) a (λ place x h. h) 0 0 a i (StandsAt-whole a) in
    let in_second : Each (IsPlaced a b) (gap_from Second 0 0 b i) =
    gap_placed Second (IsPlaced a b) b (λ place x h. h) 0 0 b i (StandsAt-whole b) in
    Each-append (IsPlaced a b) (gap_from First 0 0 a i ++ gap_from Second 0 0 b i) _
    (Each-append (IsPlaced a b) (gap_from First 0 0 a i) (gap_from Second 0 0 b i) in_first in_second)
    (kept_placed a b i (place_of a i) (place_of b i) refl refl)

merge_from_placed : {A : Type 0} (a b : List (Item A)) (i count : ℕ) → Each (IsPlaced a b) (merge_from a b i count)
merge_from_placed a b i zero = merge_at_placed a b i
merge_from_placed a b i (suc count) =
    Each-append (IsPlaced a b) (merge_at a b i) (merge_from a b (suc i) count) (merge_at_placed a b i) (merge_from_placed a b (suc i) count)

-- each item of a merge stands at its places in both images
pub merge_placed : {A : Type 0} (a b : Operation A) → Each (IsPlaced a.image b.image) (merge a b)
unfolding apply compose invert merge merged first_after second_after
merge_placed a b = merge_from_placed a.image b.image 0 a.base

through_first :
    {A : Type 0} (a b : List (Item A)) (items : List (Merged A)) → Each (IsPlaced a b) items
    → filter_map (item_in a) (map over_first items) ≡ map unmarked items
through_first a b [] placed = refl
through_first a b (First place x ∷ items) placed =
    rw placed.0 (ap (λ rest. New x ∷ rest) (through_first a b items placed.1))
through_first a b (Second place x ∷ items) placed = ap (λ rest. New x ∷ rest) (through_first a b items placed.1)
through_first a b (Both i p q ∷ items) placed =
    rw placed.0.0 (ap (λ rest. Old i ∷ rest) (through_first a b items placed.1))

through_second :
    {A : Type 0} (a b : List (Item A)) (items : List (Merged A)) → Each (IsPlaced a b) items
    → filter_map (item_in b) (map over_second items) ≡ map unmarked items
through_second a b [] placed = refl
through_second a b (First place x ∷ items) placed = ap (λ rest. New x ∷ rest) (through_second a b items placed.1)
through_second a b (Second place x ∷ items) placed =
    rw placed.0 (ap (λ rest. New x ∷ rest) (through_second a b items placed.1))
through_second a b (Both i p q ∷ items) placed =
    rw placed.0.1 (ap (λ rest. Old i ∷ rest) (through_second a b items placed.1))

-- a, and then b after a, is the merge
pub compose-second_after : {A : Type 0} (a b : Operation A) → compose a (second_after a b) ≡ merged a b
unfolding apply compose invert merge merged first_after second_after
compose-second_after a b =
    ap (λ image. record { base = a.base; image = image }) (through_first a.image b.image (merge a b) (merge_placed a b))

-- b, and then a after b, is the merge too
pub compose-first_after : {A : Type 0} (a b : Operation A) → a.base ≡ b.base → compose b (first_after a b) ≡ merged a b
unfolding apply compose invert merge merged first_after second_after
compose-first_after a b same = λ i. record { base = sym same i; image = through_second a.image b.image (merge a b) (merge_placed a b) i }

-- so both orders are the same operation
pub transform_meets : {A : Type 0} (a b : Operation A) → a.base ≡ b.base → compose a (second_after a b) ≡ compose b (first_after a b)
transform_meets a b same = compose-second_after a b ∙ sym (compose-first_after a b same)

-- and both orders make the same document
pub transform_converges :
    {A : Type 0} (a b : Operation A) (document : List A)
    → IsOperation a → IsOperation b → a.base ≡ length document → b.base ≡ length document
    → apply (second_after a b) (apply a document) ≡ apply (first_after a b) (apply b document)
transform_converges a b document a_rises b_rises a_fits b_fits =
    sym (apply-compose a (second_after a b) document a_rises a_fits)
    ∙ ap (λ op. apply op document) (transform_meets a b (a_fits ∙ sym b_fits))
    ∙ apply-compose b (first_after a b) document b_rises b_fits
