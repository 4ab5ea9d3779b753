-- The shape of an operation: how much it keeps, inserts and deletes, and not what. An operation is its shape and its new elements.
use Rattle.std.specs.Prelude.{List, [], ◌∷◌, map}
use Rattle.ot_operation.specs.Operation.{Item, Old, New, Operation}

-- an item with another new element in the place of its own
abbrev pub mapped_item : {A B : Type 0} → (A → B) → Item A → Item B
mapped_item f (Old i) = Old i
mapped_item f (New x) = New (f x)

-- an operation with another new element in the place of each
abbrev pub mapped : {A B : Type 0} → (A → B) → Operation A → Operation B
mapped f op = record { base = op.base; image = map (mapped_item f) op.image }

-- what an element has in common with all others
abbrev pub blank : {A : Type 0} → A → Unit {0}
blank x = tt

abbrev pub shape : {A : Type 0} → Operation A → Operation (Unit {0})
shape op = mapped blank op

-- the new items of an image filled with elements, in order; those for which there is no element are left out
abbrev pub filled_image : {A : Type 0} → List (Item (Unit {0})) → List A → List (Item A)
filled_image [] text = []
filled_image (Old i ∷ image) text = Old i ∷ filled_image image text
filled_image (New _ ∷ image) [] = filled_image image []
filled_image (New _ ∷ image) (x ∷ text) = New x ∷ filled_image image text

-- the operation of that shape that inserts these elements
abbrev pub filled : {A : Type 0} → Operation (Unit {0}) → List A → Operation A
filled op text = record { base = op.base; image = filled_image op.image text }
