-- What taking a line does to the bytes that are held or left.
use Rattle.std.specs.Prelude.{◌≡◌, ℕ, ◌+◌, Bool, true, false, List, [], ◌∷◌, ◌++◌, length, Option, Some, None, ⊤}
use Rattle.std.specs.Io.KnownBytes.{prepend_known, Consumes}
use Rattle.streams.specs.Lines.{lines_of, lacks}

-- bytes that were read and not yet taken, and how many more may be read
pub record Ahead : Type 0 where
  pub held : List ℕ
  pub left : ℕ

-- how many bytes may yet be taken
abbrev pub may_take : Ahead → ℕ
may_take ahead = ahead.left + length ahead.held

-- the bytes that are held, and then those that the reader has left
abbrev pub before : Ahead → Option (List ℕ) → Option (List ℕ)
before ahead remaining = prepend_known ahead.held remaining

-- what is held began with a piece of a line, which now stands behind what was there of the line:
-- the LF is taken too where the line is whole, and else all that was held
abbrev pub TakesPiece : Bool → List ℕ → List ℕ → List ℕ → List ℕ → Type 0
TakesPiece true held left line longer = (piece : List ℕ) × (lacks piece ≡ true) × (longer ≡ line ++ piece) × (held ≡ piece ++ 10 ∷ left)
TakesPiece false held left line longer = (lacks held ≡ true) × (longer ≡ line ++ held) × (left ≡ [])

-- the first line was taken, or there is none
abbrev pub TakesLine : Option (List ℕ) → Option (List ℕ) → Bool → List ℕ → Type 0
TakesLine None new more line = ⊤
TakesLine (Some bytes) None more line = ⊥
TakesLine (Some bytes) (Some rest) true line = lines_of bytes ≡ line ∷ lines_of rest
TakesLine (Some bytes) (Some rest) false line = (bytes ≡ []) × (rest ≡ [])

-- a piece of the first line was lost, and nothing behind it
abbrev pub LosesPiece : Option (List ℕ) → Option (List ℕ) → Type 0
LosesPiece old new = (piece : List ℕ) × (lacks piece ≡ true) × Consumes old new piece

-- as many known bytes went as may be taken fewer
abbrev pub Spends : ℕ → ℕ → Option (List ℕ) → Option (List ℕ) → Type 0
Spends most left None new = ⊤
Spends most left (Some bytes) None = ⊥
Spends most left (Some bytes) (Some rest) = left + length bytes ≡ most + length rest
