-- The keys of a port's lines that no line of `steps` has.
use Rattle.std.specs.Prelude.{ℕ, suc, ◌+◌, ◌-◌, ◌^◌, min, nat_le, List, [], ◌∷◌, ◌++◌, length, map, Bool, true, false, not, ◌==◌, ◌&&◌, ◌||◌, Option, Some, None, codes, decimal, string_bytes, if◌then◌else◌}
use Rattle.std.specs.Str.{bytes_eq}
use Rattle.json.specs.Print.{quoted}
use Rattle.serde_json.specs.Data.{Data, null, boolean, number, string, array, object, Members, no_members, member}
use Rattle.serde_json.specs.Find.{get}
use Rattle.ot_asm.specs.Words.{trimmed}
use Rattle.ot_steps.specs.Text.{key_text, keys}
use Rattle.ot_steps.specs.declared.key.Key.{Key}
use Rattle.ot_conform.specs.Ports.{PortLine, Told, OtherForm, NoText, Nothing, is_empty, port_line}
use Rattle.ot_conform.specs.declared.unknown.Part.{Part}
use Rattle.ot_conform.specs.declared.unknown.Part.TheVariants as part
use Rattle.ot_conform.specs.declared.unknown.UnknownKey.{UnknownKey}

-- ---- which keys are known

abbrev pub is_of : List Key → List ℕ → Bool
is_of [] name = false
is_of (k ∷ ks) name = bytes_eq (key_text k) name || is_of ks name

-- a part of what a client sent
abbrev pub is_part_name : List ℕ → Bool
is_part_name name = bytes_eq name (codes "revision") || bytes_eq name (codes "operation")

-- a line's keys, and those of the objects under `sent` and `message`
abbrev pub is_known : Part → List ℕ → Bool
is_known part.Line name = bytes_eq name (codes "at") || (bytes_eq name (codes "message") || is_of keys name)
is_known part.Sent name = is_part_name name
is_known part.Message name = is_part_name name

abbrev pub front_of : Part → List ℕ
front_of part.Line = []
front_of part.Sent = codes "sent."
front_of part.Message = codes "message."

-- ---- those that are unknown, each with the number of the first line that has it

pub record Named : Type 0 where
  pub key : List ℕ
  pub line : ℕ

abbrev pub named_of : UnknownKey → Named
named_of u = record { key = string_bytes u.key; line = u.line }

abbrev pub all_named : List UnknownKey → List Named
all_named us = map named_of us

abbrev pub is_named : List ℕ → List Named → Bool
is_named key [] = false
is_named key (n ∷ ns) = bytes_eq n.key key || is_named key ns

abbrev pub most_named : ℕ
most_named = 16

-- one more, where it is not named and fewer than sixteen are
abbrev pub with_key : ℕ → List ℕ → List Named → List Named
with_key line key ns = if is_named key ns || nat_le most_named (length ns) then ns else ns ++ record { key = key; line = line } ∷ []

abbrev pub unless_known : ℕ → Part → List ℕ → List Named → List Named
unless_known line p name ns = if is_known p name then ns else with_key line (front_of p ++ name) ns

abbrev pub with_members : ℕ → Part → Members → List Named → List Named
with_members line p no_members ns = ns
with_members line p (member k d ms) ns = with_members line p ms (unless_known line p k ns)

-- what is no object has no keys
abbrev pub with_object : ℕ → Part → Option Data → List Named → List Named
with_object line p None ns = ns
with_object line p (Some null) ns = ns
with_object line p (Some (boolean b)) ns = ns
with_object line p (Some (number n)) ns = ns
with_object line p (Some (string s)) ns = ns
with_object line p (Some (array ds)) ns = ns
with_object line p (Some (object ms)) ns = with_members line p ms ns

abbrev pub with_told : ℕ → Data → List Named → List Named
with_told line d ns =
    with_object line part.Message (get (codes "message") d)
    (with_object line part.Sent (get (codes "sent") d) (with_object line part.Line (Some d) ns))

-- the number of the line behind so many, at most the greatest u64
abbrev pub line_number : ℕ → ℕ
line_number earlier = min (earlier + 1) (2 ^ 64 - 1)

-- with those of a port's line of this number
abbrev pub with_unknown : ℕ → PortLine → List Named → List Named
with_unknown line (Told d) ns = with_told line d ns
with_unknown line (OtherForm bytes) ns = ns
with_unknown line NoText ns = ns
with_unknown line Nothing ns = ns

-- a line of bytes; a blank one has none
abbrev pub with_unknown_bytes : ℕ → List ℕ → List Named → List Named
with_unknown_bytes line bytes ns = if is_empty (trimmed bytes) then ns else with_unknown line (port_line (trimmed bytes)) ns

-- these lines, behind so many
abbrev pub with_unknown_lines : ℕ → List (List ℕ) → List Named → List Named
with_unknown_lines earlier [] ns = ns
with_unknown_lines earlier (line ∷ lines) ns = with_unknown_lines (suc earlier) lines (with_unknown_bytes (line_number earlier) line ns)

-- ---- as they are answered

-- a letter, a digit, `_`, `-` or `.`
abbrev pub is_word_byte : ℕ → Bool
is_word_byte b =
    (nat_le 97 b && nat_le b 122) || ((nat_le 65 b && nat_le b 90) || ((nat_le 48 b && nat_le b 57) || (b == 95 || (b == 45 || b == 46))))

abbrev pub are_word_bytes : List ℕ → Bool
are_word_bytes [] = true
are_word_bytes (b ∷ bs) = is_word_byte b && are_word_bytes bs

-- a word as it is, and any other key as a JSON string
abbrev pub shown_key : List ℕ → List ℕ
shown_key key = if not (is_empty key) && are_word_bytes key then key else quoted key

-- unknown KEY in line N
abbrev pub unknown_row : Named → List ℕ
unknown_row n = codes "unknown " ++ (shown_key n.key ++ (codes " in line " ++ (decimal n.line ++ codes "\n")))

abbrev pub unknown_rows : List Named → List ℕ
unknown_rows [] = []
unknown_rows (n ∷ ns) = unknown_row n ++ unknown_rows ns
