-- The code points of what was found and of what ot.js has, which may look alike.
use Rattle.std.specs.Prelude.{ℕ, nat_le, nat_lt, List, [], ◌∷◌, ◌++◌, take, drop, Bool, true, Option, Some, None, codes, string_bytes, ◌&&◌, if◌then◌else◌}
use Rattle.std.specs.Fmt.{digits}
use Rattle.std.specs.Str.{chars}
use Rattle.ot_conform.specs.Answers.{same_front}
use Rattle.ot_conform.specs.declared.answers.Difference.{Difference}
use Rattle.ot_conform.specs.declared.points.Points.{Points}

-- the zeros before a hexadecimal number, which has four digits or more
abbrev pub zeros : ℕ → List ℕ
zeros c = if nat_lt c 16 then codes "000" else (if nat_lt c 256 then codes "00" else (if nat_lt c 4096 then codes "0" else []))

abbrev pub point_text : ℕ → List ℕ
point_text c = codes " U+" ++ (zeros c ++ digits 16 true c)

abbrev pub points_text : List ℕ → List ℕ
points_text [] = []
points_text (c ∷ cs) = point_text c ++ points_text cs

-- the first one, if there is one, is a character of ASCII that is seen
abbrev pub begins_plain : List ℕ → Bool
begins_plain [] = true
begins_plain (c ∷ cs) = nat_le 32 c && nat_le c 126

abbrev pub points_row : List ℕ → List ℕ → List ℕ
points_row found wanted = codes "points" ++ (points_text found ++ (codes " |" ++ (points_text wanted ++ codes "\n")))

-- from a place on, four at most
abbrev pub four_from : ℕ → List ℕ → List ℕ
four_from place text = take 4 (drop place text)

-- of both texts from where they first differ, where one of them has another character there
abbrev pub points_from : List ℕ → List ℕ → Option (List ℕ × List ℕ)
points_from found wanted = if begins_plain found && begins_plain wanted then None else Some (found, wanted)

abbrev pub points_of : List ℕ → List ℕ → Option (List ℕ × List ℕ)
points_of found wanted = points_from (four_from (same_front found wanted) found) (four_from (same_front found wanted) wanted)

-- of both values as they are printed
abbrev pub difference_points : Difference → Option (List ℕ × List ℕ)
difference_points d = points_of (chars (string_bytes d.found)) (chars (string_bytes d.wanted))

abbrev pub points_rows : Option (List ℕ × List ℕ) → List ℕ
points_rows None = []
points_rows (Some points) = points_row points.0 points.1

-- as the program has them
abbrev pub points_value : Points → List ℕ × List ℕ
points_value points = (points.found.items, points.wanted.items)
