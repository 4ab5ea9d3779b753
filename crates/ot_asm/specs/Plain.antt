-- Words of a comment that can be shown as they are.
use Rattle.std.specs.Prelude.{ℕ, Bool, true, false, ◌==◌, ◌&&◌, ◌||◌, nat_le, nat_lt, List, [], ◌∷◌, if◌then◌else◌}
use Rattle.std.specs.Str.{chars, is_utf8}

abbrev pub is_within : ℕ → ℕ → ℕ → Bool
is_within low high c = nat_le low c && nat_le c high

-- U+0000 to U+001F and U+007F to U+009F
abbrev pub is_control : ℕ → Bool
is_control c = nat_lt c 0x20 || is_within 0x7F 0x9F c

-- characters that are not seen or turn the direction of writing: U+00AD, U+061C, U+180E
abbrev pub is_sign : ℕ → Bool
is_sign c = c == 0xAD || (c == 0x61C || c == 0x180E)

-- U+200B to U+200F, U+2028 to U+202E, U+2060 to U+206F
abbrev pub is_mark : ℕ → Bool
is_mark c = is_within 0x200B 0x200F c || (is_within 0x2028 0x202E c || is_within 0x2060 0x206F c)

-- U+FEFF, U+FFF9 to U+FFFB, U+E0000 to U+E0FFF
abbrev pub is_special : ℕ → Bool
is_special c = c == 0xFEFF || (is_within 0xFFF9 0xFFFB c || is_within 0xE0000 0xE0FFF c)

abbrev pub is_hidden : ℕ → Bool
is_hidden c = is_control c || (is_sign c || (is_mark c || is_special c))

abbrev pub all_seen : List ℕ → Bool
all_seen [] = true
all_seen (c ∷ cs) = if is_hidden c then false else all_seen cs

-- a text of characters that are all seen
abbrev pub is_plain : List ℕ → Bool
is_plain words = if is_utf8 words then all_seen (chars words) else false

-- the words if they are plain, and none if they are not
abbrev pub shown : List ℕ → List ℕ
shown words = if is_plain words then words else []
