-- The law of invert: it restores the document.
use Rattle.std.proofs.Common.{◌≡◌, ℕ, suc, zero, Bool, true, false, cond, List, [], ◌∷◌, length, Option, Some, None, refl, ap, ◌∙◌, arith, nat_eq, eqb-true}
use Rattle.std.specs.List.{filter_map, slice_get}
use Rattle.ot_operation.specs.Operation.{Item, Old, New, Operation, IsOperation, apply, invert, value_in, place_from, place_of, restored, restored_from}
use Rattle.ot_operation.proofs.Lists.{GivesEach, slice_get-filter_map, StandsAt, StandsAt-tail, StandsAt-whole}
use Rattle.ot_operation.proofs.ApplyLaws.{each_value}

-- the place of an Old holds it
pub place_stands :
    {A : Type 0} (whole : List (Item A)) (place : ℕ) (image : List (Item A)) (i : ℕ) → StandsAt whole place image
    → (found : ℕ) → place_from place image i ≡ Some found → slice_get whole found ≡ Some (Old i)
place_stands whole place [] i stands found e = absurd cc
place_stands whole place (New x ∷ image) i stands found e =
    place_stands whole (suc place) image i (StandsAt-tail whole place (New x) image stands) found e
place_stands {A} whole place (Old j ∷ image) i stands found e =
    by (nat_eq j i) refl e (place_stands whole (suc place) image i (StandsAt-tail whole place (Old j) image stands) found)
  where
    by :
        (b : Bool) → nat_eq j i ≡ b → cond b (Some place) (place_from (suc place) image i) ≡ Some found
        → (place_from (suc place) image i ≡ Some found → slice_get whole found ≡ Some (Old i)) → slice_get whole found ≡ Some (Old i)
    by true same is later =
        let at_place : slice_get whole place ≡ Some (Old j) = stands place zero (omega arith) in
        let is_i : j ≡ i = eqb-true j i same in
        let is_found : place ≡ found = cc in
        rw (← is_found, ← is_i) at_place
    by false other is later = later is

-- a restored item stands for the element of the document
restored_value :
    {A : Type 0} (image : List (Item A)) (document : List A) → GivesEach (value_in document) image
    → (i : ℕ) (x : A) → slice_get document i ≡ Some x
    → (found : Option ℕ) → place_of image i ≡ found
    → value_in (filter_map (value_in document) image) (restored found x) ≡ Some x
restored_value image document given i x is_x None none = refl
restored_value image document given i x is_x (Some place) some =
    slice_get-filter_map (value_in document) image given place
    ∙ rw (place_stands image 0 image i (StandsAt-whole image) place some) is_x

restored_document :
    {A : Type 0} (image : List (Item A)) (document : List A) → GivesEach (value_in document) image
    → (i : ℕ) (rest : List A) → StandsAt document i rest
    → filter_map (value_in (filter_map (value_in document) image)) (restored_from image i rest) ≡ rest
restored_document image document given i [] stands = refl
restored_document image document given i (x ∷ rest) stands =
    rw (restored_value image document given i x (stands i zero (omega arith)) (place_of image i) refl)
    (ap (λ rest. x ∷ rest) (restored_document image document given (suc i) rest (StandsAt-tail document i x rest stands)))

pub apply-invert :
    {A : Type 0} (op : Operation A) (document : List A)
    → IsOperation op → op.base ≡ length document → apply (invert op document) (apply op document) ≡ document
unfolding apply invert
apply-invert op document rises fits =
    restored_document op.image document (each_value document zero op.base op.image rises (omega arith)) 0 document (StandsAt-whole document)
