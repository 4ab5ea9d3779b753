-- Two operations on one document: how their results merge, and what each becomes after the other.
use Rattle.std.specs.Prelude.{ℕ, suc, zero, List, [], ◌∷◌, ◌++◌, length, map, Option, Some, None, nat_eq, if◌then◌else◌}
use Rattle.ot_operation.specs.Operation.{Item, Operation, place_of, Old, New}

-- an item of a merge, with its places: a new element of the first or of the second image alone,
-- or the element at i of the document, with its places in both images
pub data Merged (A : Type 0) : Type 0 where
  First : ℕ → A → Merged A
  Second : ℕ → A → Merged A
  Both : ℕ → ℕ → ℕ → Merged A

-- the new elements, with `mark` and their places, that stand directly after Old (i - 1), and for i = 0 at the front;
-- the image's first place is `place`, and `at` is the gap that is open there
abbrev pub gap_from : {A : Type 0} → (ℕ → A → Merged A) → ℕ → ℕ → List (Item A) → ℕ → List (Merged A)
gap_from mark place at [] i = []
gap_from mark place at (Old j ∷ image) i = gap_from mark (suc place) (suc j) image i
gap_from mark place at (New x ∷ image) i =
    if nat_eq at i then mark place x ∷ gap_from mark (suc place) at image i else gap_from mark (suc place) at image i

abbrev pub gap : {A : Type 0} → (ℕ → A → Merged A) → List (Item A) → ℕ → List (Merged A)
gap mark image i = gap_from mark 0 0 image i

-- Old i, where both images have it
abbrev pub kept_by_both : {A : Type 0} → ℕ → Option ℕ → Option ℕ → List (Merged A)
kept_by_both i (Some place_first) (Some place_second) = Both i place_first place_second ∷ []
kept_by_both i (Some place_first) None = []
kept_by_both i None place_second = []

abbrev pub merge_at : {A : Type 0} → List (Item A) → List (Item A) → ℕ → List (Merged A)
merge_at a b i = gap First a i ++ gap Second b i ++ kept_by_both i (place_of a i) (place_of b i)

-- the merge at i, i + 1, .., i + count
abbrev pub merge_from : {A : Type 0} → List (Item A) → List (Item A) → ℕ → ℕ → List (Merged A)
merge_from a b i zero = merge_at a b i
merge_from a b i (suc count) = merge_at a b i ++ merge_from a b (suc i) count

-- both operations at once: the first's new elements stand before the second's at the same place,
-- and an element that either deletes is gone
unfoldable pub merge : {A : Type 0} → Operation A → Operation A → List (Merged A)
merge a b = merge_from a.image b.image 0 a.base

-- an item of a merge as an item over the document, over the second image, over the first image
abbrev pub unmarked : {A : Type 0} → Merged A → Item A
unmarked (First place x) = New x
unmarked (Second place x) = New x
unmarked (Both i place_first place_second) = Old i

abbrev pub over_second : {A : Type 0} → Merged A → Item A
over_second (First place x) = New x
over_second (Second place x) = Old place
over_second (Both i place_first place_second) = Old place_second

abbrev pub over_first : {A : Type 0} → Merged A → Item A
over_first (First place x) = Old place
over_first (Second place x) = New x
over_first (Both i place_first place_second) = Old place_first

-- both operations, as one operation on the document
unfoldable pub merged : {A : Type 0} → Operation A → Operation A → Operation A
merged a b = record { base = a.base; image = map unmarked (merge a b) }

-- a on what b made
unfoldable pub first_after : {A : Type 0} → Operation A → Operation A → Operation A
first_after a b = record { base = length b.image; image = map over_second (merge a b) }

-- b on what a made
unfoldable pub second_after : {A : Type 0} → Operation A → Operation A → Operation A
second_after a b = record { base = length a.image; image = map over_first (merge a b) }

abbrev pub transform : {A : Type 0} → Operation A → Operation A → Operation A × Operation A
transform a b = (first_after a b, second_after a b)
