-- What stands at a place of a line, as it is shown.
use Rattle.std.specs.Prelude.{ℕ, ◌==◌, nat_lt, false, List, [], ◌∷◌, ◌++◌, length, codes, decimal, if◌then◌else◌}
use Rattle.std.specs.Fmt.{digits}
use Rattle.std.specs.Str.{is_utf8}
use Rattle.json.specs.Print.{quoted}

-- a JSON string of at most 60 bytes, or how long the text is
abbrev pub short_text : List ℕ → List ℕ
short_text found = if nat_lt 60 (length (quoted found)) then codes "a text of " ++ (decimal (length found) ++ codes " bytes") else quoted found

-- the first of bytes that are not UTF-8
abbrev pub byte_text : List ℕ → List ℕ
byte_text [] = codes "nothing"
byte_text (b ∷ bs) = codes "0x" ++ digits 16 false b

abbrev pub found_text : List ℕ → List ℕ
found_text found = if length found == 0 then codes "nothing" else if is_utf8 found then short_text found else byte_text found
