-- The lines of a text at which its instructions stand.
use Rattle.std.specs.Prelude.{ℕ, suc, List, [], ◌∷◌, ◌++◌, ◌&&◌, ◌||◌, not, Bool, codes, if◌then◌else◌}
use Rattle.std.specs.Str.{bytes_eq}
use Rattle.streams.specs.Lines.{lines_of}
use Rattle.ot_asm.specs.Words.{counts, first_word, trimmed}

-- a word that begins a line above the instructions
abbrev pub is_above : List ℕ → Bool
is_above word = bytes_eq word (codes "clients") || (bytes_eq word (codes "present") || bytes_eq word (codes "start"))

-- the line is neither blank nor a comment, and it stands not above the instructions
abbrev pub has_instr : List ℕ → Bool
has_instr line = counts (trimmed line) && not (is_above (first_word (trimmed line)))

-- a line's number, if it has an instruction
abbrev pub place_of : ℕ → List ℕ → List ℕ
place_of number line = if has_instr line then number ∷ [] else []

-- the numbers of the lines with an instruction, the first line having this number
abbrev pub places_from : ℕ → List (List ℕ) → List ℕ
places_from number [] = []
places_from number (line ∷ lines) = place_of number line ++ places_from (suc number) lines

-- the lines of a text's instructions, in order, counted from 1
abbrev pub places : List ℕ → List ℕ
places text = places_from 1 (lines_of text)
