-- Operations over other elements: apply and invert. Compose and transform are of `ot_codes`.
use Rattle.std.proofs.Common.{◌≡◌, ℕ, zero, suc, List, [], ◌∷◌, map, length, Option, Some, None, refl, ap, ◌∙◌}
use Rattle.std.proofs.lemmas.List.{length-map}
use Rattle.std.specs.List.{filter_map, slice_get, cons_option}
use Rattle.ot_codes.specs.Shape.{mapped_item, mapped}
use Rattle.ot_codes.proofs.Mapped.{same_parts, place_from-mapped, news-mapped}
use Rattle.ot_operation.specs.Operation.{Item, Old, New, Operation, value_in, apply, place_of, restored, restored_from, invert, news}

cons_value :
    {A B : Type 0} (f : A → B) (document : List A) (i : ℕ) (rest : List A)
    → cons_option (slice_get (map f document) i) (map f rest) ≡ map f (cons_option (slice_get document i) rest)
cons_value f [] i rest = refl
cons_value f (x ∷ document) zero rest = refl
cons_value f (x ∷ document) (suc i) rest = cons_value f document i rest

values-mapped :
    {A B : Type 0} (f : A → B) (document : List A) (image : List (Item A))
    → filter_map (value_in (map f document)) (map (mapped_item f) image) ≡ map f (filter_map (value_in document) image)
values-mapped f document [] = refl
values-mapped f document (New x ∷ image) = ap (λ rest. f x ∷ rest) (values-mapped f document image)
values-mapped f document (Old i ∷ image) =
    ap (cons_option (slice_get (map f document) i)) (values-mapped f document image)
    ∙ cons_value f document i (filter_map (value_in document) image)

pub apply-mapped : {A B : Type 0} (f : A → B) (op : Operation A) (document : List A) → apply (mapped f op) (map f document) ≡ map f (apply op document)
unfolding apply
apply-mapped f op document = values-mapped f document op.image

restored-mapped : {A B : Type 0} (f : A → B) (place : Option ℕ) (x : A) → restored place (f x) ≡ mapped_item f (restored place x)
restored-mapped f None x = refl
restored-mapped f (Some place) x = refl

restored_from-mapped :
    {A B : Type 0} (f : A → B) (image : List (Item A)) (i : ℕ) (document : List A)
    → restored_from (map (mapped_item f) image) i (map f document) ≡ map (mapped_item f) (restored_from image i document)
restored_from-mapped f image i [] = refl
restored_from-mapped {A} {B} f image i (x ∷ document) =
    ap (λ (place : Option ℕ). restored place (f x) ∷ restored_from (map (mapped_item f) image) (suc i) (map f document)) (place_from-mapped f 0 image i)
    ∙ ap (λ (item : Item B). item ∷ restored_from (map (mapped_item f) image) (suc i) (map f document)) (restored-mapped f (place_of image i) x)
    ∙ ap (λ (rest : List (Item B)). mapped_item f (restored (place_of image i) x) ∷ rest) (restored_from-mapped f image (suc i) document)

pub invert-mapped : {A B : Type 0} (f : A → B) (op : Operation A) (document : List A) → invert (mapped f op) (map f document) ≡ mapped f (invert op document)
unfolding invert
invert-mapped f op document = same_parts _ _ _ _ (length-map op.image (mapped_item f)) (restored_from-mapped f op.image 0 document)

-- a map inserts as much
pub length-news-mapped : {A B : Type 0} (f : A → B) (image : List (Item A)) → length (news (map (mapped_item f) image)) ≡ length (news image)
length-news-mapped f image = ap length (news-mapped f image) ∙ length-map (news image) f
