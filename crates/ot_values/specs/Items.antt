-- The items of a JSON array or object.
use Rattle.std.specs.Prelude.{ℕ, List, [], ◌∷◌, ◌++◌}

-- one item more, behind a comma where it is not the first
abbrev pub with_item : List ℕ → List ℕ → List ℕ
with_item [] item = item
with_item (b ∷ bs) item = (b ∷ bs) ++ 44 ∷ item

abbrev pub with_items : List ℕ → List (List ℕ) → List ℕ
with_items text [] = text
with_items text (item ∷ items) = with_items (with_item text item) items
