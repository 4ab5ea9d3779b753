-- An input of a schedule's lines, a line `%%`, and lines of commands.
use Rattle.std.specs.Prelude.{◌≡◌, ◌+◌, ◌&&◌, ℕ, Bool, true, List, [], ◌∷◌, ◌++◌, length, drop, codes, Option, None, Some, ⊤, ◌-◌, if◌then◌else◌}
use Rattle.std.specs.Str.{bytes_eq}
use Rattle.streams.specs.Lines.{lines_of, lacks}
use Rattle.ot_asm.specs.Words.{trimmed}

-- a line that is `%%` once one CR at its end and then blanks at both ends are dropped
abbrev pub is_mark : List ℕ → Bool
is_mark line = bytes_eq (trimmed line) (codes "%%")

-- the lines before the first mark, where marks count, or all lines
unfoldable pub lines_before : Bool → List (List ℕ) → List (List ℕ)
lines_before marked [] = []
lines_before marked (l ∷ ls) = if marked && is_mark l then [] else l ∷ lines_before marked ls

-- the lines behind the first mark, where marks count, or none
unfoldable pub lines_behind : Bool → List (List ℕ) → List (List ℕ)
lines_behind marked [] = []
lines_behind marked (l ∷ ls) = if marked && is_mark l then ls else lines_behind marked ls

-- so many lines of known bytes were taken, as far as the first mark or the end
abbrev pub TakesPart : Bool → Option (List ℕ) → Option (List ℕ) → ℕ → Type 0
TakesPart marked None new count = ⊤
TakesPart marked (Some text) None count = ⊥
TakesPart marked (Some text) (Some rest) count = (lines_of rest ≡ lines_behind marked (lines_of text)) × (length (lines_of text) ≡ count + length (lines_of rest))

-- the lines before number `line` were taken from known bytes, and a piece of that line, and nothing behind it
abbrev pub StopsIn : Option (List ℕ) → Option (List ℕ) → ℕ → Type 0
StopsIn None new line = ⊤
StopsIn (Some text) None line = ⊥
StopsIn (Some text) (Some rest) line = (piece : List ℕ) × (lacks piece ≡ true) × (drop (line - 1) (lines_of text) ≡ lines_of (piece ++ rest))
