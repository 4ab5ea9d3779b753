-- What a text operation means: from a base length, the list that it makes of the base's places.
use Rattle.std.specs.Prelude.{ℕ, zero, suc, ◌+◌, ◌<◌, ◌≤◌, List, [], ◌∷◌, ◌++◌, map, length, max, Option, Some, None, nat_eq, if◌then◌else◌}
use Rattle.std.specs.List.{filter_map, slice_get}
use Rattle.ot_operation.specs.declared.TheConstants.{LIMIT}

-- an item of an image: what stood at a place of the document before, or a new element
pub data Item (A : Type 0) : Type 0 where
  Old : ℕ → Item A
  New : A → Item A

-- an operation: the length of the documents that it takes, and what it makes of them
pub record Operation (A : Type 0) : Type 0 where
  pub base : ℕ
  pub image : List (Item A)

-- the kept places of an image rise strictly, from `low` on, and stay below `base`
abbrev pub RisesFrom : {A : Type 0} → ℕ → ℕ → List (Item A) → Type 0
RisesFrom low base [] = Unit {0}
RisesFrom low base (Old i ∷ image) = (low ≤ i) × (i < base) × RisesFrom (suc i) base image
RisesFrom low base (New x ∷ image) = RisesFrom low base image

-- each place of the base is kept at most once, and in order
abbrev pub IsOperation : {A : Type 0} → Operation A → Type 0
IsOperation op = RisesFrom 0 op.base op.image

-- `count` items of the base, from the place `from` on
abbrev pub olds : {A : Type 0} → ℕ → ℕ → List (Item A)
olds from zero = []
olds from (suc count) = Old from ∷ olds (suc from) count

-- the operation on the empty document that does nothing
abbrev pub empty : {A : Type 0} → Operation A
empty = record { base = 0; image = [] }

-- the operation that keeps every item of documents of that length
abbrev pub identity : {A : Type 0} → ℕ → Operation A
identity count = record { base = count; image = olds 0 count }

-- the operation and then `count` more items of the base, which are retained
abbrev pub with_retain : {A : Type 0} → Operation A → ℕ → Operation A
with_retain op count = record { base = op.base + count; image = op.image ++ olds op.base count }

-- the operation and then new items
abbrev pub with_insert : {A : Type 0} → Operation A → List A → Operation A
with_insert op text = record { base = op.base; image = op.image ++ map New text }

-- the operation and then `count` more items of the base, which are deleted
abbrev pub with_delete : {A : Type 0} → Operation A → ℕ → Operation A
with_delete op count = record { base = op.base + count; image = op.image }

-- the base or the image passes the limit of 1,000,000
abbrev pub IsTooLong : {A : Type 0} → Operation A → Type 0
IsTooLong op = LIMIT < max op.base (length op.image)

-- the new elements of an image, in order
abbrev pub new_of : {A : Type 0} → Item A → Option A
new_of (Old i) = None
new_of (New x) = Some x

abbrev pub news : {A : Type 0} → List (Item A) → List A
news image = filter_map new_of image

-- what an item stands for in a document
abbrev pub value_in : {A : Type 0} → List A → Item A → Option A
value_in document (Old i) = slice_get document i
value_in document (New x) = Some x

-- the document that an operation makes: for each Old i the item at i, for each New x the item x
unfoldable pub apply : {A : Type 0} → Operation A → List A → List A
apply op document = filter_map (value_in document) op.image

-- the place where Old i stands in an image, the first place of which is `place`
abbrev pub place_from : {A : Type 0} → ℕ → List (Item A) → ℕ → Option ℕ
place_from place [] i = None
place_from place (Old j ∷ image) i = if nat_eq j i then Some place else place_from (suc place) image i
place_from place (New x ∷ image) i = place_from (suc place) image i

abbrev pub place_of : {A : Type 0} → List (Item A) → ℕ → Option ℕ
place_of image i = place_from 0 image i

-- the inverse of a document's item: kept where the image has it, new where it went
abbrev pub restored : {A : Type 0} → Option ℕ → A → Item A
restored (Some place) x = Old place
restored None x = New x

abbrev pub restored_from : {A : Type 0} → List (Item A) → ℕ → List A → List (Item A)
restored_from image i [] = []
restored_from image i (x ∷ document) = restored (place_of image i) x ∷ restored_from image (suc i) document

-- the inverse of `op` on a document
unfoldable pub invert : {A : Type 0} → Operation A → List A → Operation A
invert op document = record { base = length op.image; image = restored_from op.image 0 document }
