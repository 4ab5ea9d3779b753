-- The keys of a plan that are not read.
use Rattle.std.specs.Prelude.{ℕ, nat_le, nat_lt, Bool, ◌||◌, List, [], ◌∷◌, ◌++◌, length, map, Option, Some, None, codes, decimal, string_bytes, if◌then◌else◌}
use Rattle.std.specs.Str.{bytes_eq}
use Rattle.json.specs.Print.{quoted}
use Rattle.serde_json.specs.Data.{Data, Members, no_members, member}
use Rattle.serde_json.specs.Find.{as_array, as_object}
use Rattle.serde_json.specs.Read.{read}
use Rattle.ot_reasons.specs.declared.ignored.Ignored.{Ignored}
use Rattle.ot_reasons.specs.declared.ignored.Part.{Part}
use Rattle.ot_reasons.specs.declared.ignored.Part.TheVariants.{Plan, Action}
use Rattle.ot_reasons.specs.declared.place.Place.{Place}
use Rattle.ot_json.specs.Fields.{items_at}
use Rattle.ot_reasons.specs.Namings.{note_all, note_each}
use Rattle.ot_reasons.specs.Places.{here, in_part, row_place}
use Rattle.ot_reasons.specs.Words.{place_text}

-- ---- which keys are read

abbrev pub is_read : Part → List ℕ → Bool
is_read Plan key =
    bytes_eq key (codes "clients") || (bytes_eq key (codes "workers") || (bytes_eq key (codes "typing") || (bytes_eq key (codes "start") || bytes_eq key (codes "present"))))
is_read Action key = bytes_eq key (codes "at") || (bytes_eq key (codes "delete") || bytes_eq key (codes "insert"))

-- ---- the others: which object has it, where that stands, and the key

pub record Key : Type 0 where
  pub part : Part
  pub place : Place
  pub key : List ℕ

abbrev pub key_value : Ignored → Key
key_value x = record { part = x.part; place = x.place; key = string_bytes x.key }

abbrev pub key_values : List Ignored → List Key
key_values xs = map key_value xs

-- one more, where fewer than sixteen are named
abbrev pub with_key : Part → Place → List ℕ → List Key → List Key
with_key part p key found = if nat_le 16 (length found) then found else found ++ record { part = part; place = p; key = key } ∷ []

abbrev pub unless_read : Part → Place → List ℕ → List Key → List Key
unless_read part p key found = if is_read part key then found else with_key part p key found

abbrev pub with_members : Part → Place → Members → List Key → List Key
with_members part p no_members found = found
with_members part p (member k d ms) found = with_members part p ms (unless_read part p k found)

-- those of an object; what is none has no keys
abbrev pub with_keys : Part → Place → Option Members → List Key → List Key
with_keys part p None found = found
with_keys part p (Some ms) found = with_members part p ms found

abbrev pub with_action : Place → ℕ → Data → List Key → List Key
with_action p k d found = with_keys Action (in_part p k) (as_object d) found

abbrev pub with_row : ℕ → Data → List Key → List Key
with_row k d found = note_all (note_each (with_action (row_place k)) 0) (as_array d) found

-- of a plan: its own, and those of its actions
abbrev pub ignored_in : Data → List Key
ignored_in d = note_all (note_each with_row 0) (items_at (codes "typing") d) (with_keys Plan here (as_object d) [])

abbrev pub ignored_if : Option Data → List Key
ignored_if None = []
ignored_if (Some d) = ignored_in d

abbrev pub ignored_of_text : List ℕ → List Key
ignored_of_text text = ignored_if (read text)

-- ---- in words

-- a JSON string of at most 60 bytes, or how long the key is
abbrev pub shown_key : List ℕ → List ℕ
shown_key key = if nat_lt 60 (length (quoted key)) then codes "a key of " ++ (decimal (length key) ++ codes " bytes") else quoted key

abbrev pub read_text : Part → List ℕ
read_text Plan = codes "a plan has clients, workers, typing, start and present"
read_text Action = codes "an action has at, delete and insert"

-- a row for each: what is ignored, where, and what is read there
abbrev pub ignored_row : Key → List ℕ
ignored_row x =
    codes "ignored " ++ (shown_key x.key ++ (codes " in " ++ (place_text (codes "the plan") x.place ++ (codes "; " ++ (read_text x.part ++ codes "\n")))))

abbrev pub ignored_rows : List Key → List ℕ
ignored_rows [] = []
ignored_rows (x ∷ xs) = ignored_row x ++ ignored_rows xs
