-- The lines that a port prints.
use Rattle.std.specs.Prelude.{ℕ, ◌==◌, ◌&&◌, List, [], ◌∷◌, Bool, true, false, not, Option, Some, None, codes, is_some, if◌then◌else◌}
use Rattle.std.specs.Str.{is_utf8}
use Rattle.serde_json.specs.Data.{Data}
use Rattle.serde_json.specs.Find.{get}
use Rattle.serde_json.specs.Read.{read}
use Rattle.ot_json.specs.Fields.{number_at}
use Rattle.ot_asm.specs.Words.{trimmed}
use Rattle.ot_conform.specs.Keys.{is_told}

-- an object with a place; a text of another form; bytes that are no text; or no line at all
pub data PortLine : Type 0 where
  Told : Data → PortLine
  OtherForm : List ℕ → PortLine
  NoText : PortLine
  Nothing : PortLine

-- a JSON value that says a place is an object
abbrev pub told_or_other : List ℕ → Option Data → PortLine
told_or_other bytes None = OtherForm bytes
told_or_other bytes (Some d) = if is_some (number_at (codes "at") d) then Told d else OtherForm bytes

abbrev pub port_line : List ℕ → PortLine
port_line bytes = if is_utf8 bytes then told_or_other bytes (read bytes) else NoText

abbrev pub is_empty : List ℕ → Bool
is_empty [] = true
is_empty (b ∷ bs) = false

-- the lines that count: one CR at the end and then blanks at both ends are dropped, and empty ones passed over
abbrev pub counted_lines : List (List ℕ) → List PortLine
counted_lines [] = []
counted_lines (line ∷ lines) = if is_empty (trimmed line) then counted_lines lines else port_line (trimmed line) ∷ counted_lines lines

abbrev pub is_zero : Option ℕ → Bool
is_zero None = false
is_zero (Some n) = n == 0

-- the opening's line: place 0, and none of `do`, `stopped` and `end`
abbrev pub is_opening : Data → Bool
is_opening d =
    is_zero (number_at (codes "at") d)
    && (not (is_told (get (codes "do") d)) && (not (is_told (get (codes "stopped") d)) && not (is_told (get (codes "end") d))))

abbrev pub is_opening_line : PortLine → Bool
is_opening_line (Told d) = is_opening d
is_opening_line _ = false

abbrev pub is_nothing : PortLine → Bool
is_nothing Nothing = true
is_nothing _ = false

-- a line, and those behind it; where there is none, nothing
abbrev pub front : PortLine → List PortLine → List PortLine
front (Told d) lines = Told d ∷ lines
front (OtherForm bytes) lines = OtherForm bytes ∷ lines
front NoText lines = NoText ∷ lines
front Nothing lines = []
