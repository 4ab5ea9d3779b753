-- The edits of small sessions: over a document of so many characters, every operation that inserts one text at most so often.
use Rattle.std.specs.Prelude.{◌≡◌, ℕ, zero, suc, ◌≤◌, List, [], ◌∷◌, ◌++◌, length, map, All}
use Rattle.ot_operation.specs.Operation.{Item, Old, New, Operation, IsOperation}
use Rattle.ot_operation.specs.Run.{Run, Keep, Add, Skip, normal_runs}

-- at a place where an insertion may come: what follows without one, then what follows one
abbrev pub with_insertion : List ℕ → (ℕ → List (List (Item ℕ))) → ℕ → List (List (Item ℕ))
with_insertion text following zero = following zero
with_insertion text following (suc most) = following (suc most) ++ map (λ image. map New text ++ image) (following most)

-- the images of `count` characters from the place `from` on: the first is kept, and an insertion may come behind it, or it is deleted.
-- So an insertion stands before the characters that are deleted at its place, as in normal form
abbrev pub images : List ℕ → ℕ → ℕ → ℕ → List (List (Item ℕ))
images text from zero most = [] ∷ []
images text from (suc count) most =
    map (λ image. Old from ∷ image) (with_insertion text (images text (suc from) count) most) ++ images text (suc from) count most

-- the operations over `count` characters with at most so many insertions, each of this text, in one order
abbrev pub forms : List ℕ → ℕ → ℕ → List (Operation ℕ)
forms text most count = map (λ image. record { base = count; image = image }) (with_insertion text (images text 0 count) most)

-- the texts that runs insert
abbrev pub inserted_texts : List (Run ℕ) → List (List ℕ)
inserted_texts [] = []
inserted_texts (Keep count ∷ runs) = inserted_texts runs
inserted_texts (Add text ∷ runs) = text ∷ inserted_texts runs
inserted_texts (Skip count ∷ runs) = inserted_texts runs

-- the insertions of an operation, from left to right: those of its normal form
abbrev pub insertions : Operation ℕ → List (List ℕ)
insertions op = inserted_texts (normal_runs op)

-- an operation over `count` characters with at most so many insertions, each of so many letters
pub record IsForm (letters most count : ℕ) (op : Operation ℕ) : Type 0 where
  pub operation : IsOperation op
  pub base : op.base ≡ count
  pub few : length (insertions op) ≤ most
  pub long : All (λ text. length text ≡ letters) (insertions op)
