-- What a port's line says under a key, and when that agrees with what the run has.
use Rattle.std.specs.Prelude.{ℕ, List, [], ◌∷◌, Bool, true, false, not, ◌&&◌, Option, Some, None, codes, is_some, option_and_then, if◌then◌else◌}
use Rattle.std.specs.Str.{bytes_eq}
use Rattle.serde_json.specs.Data.{Data, null, boolean, number, string, array, object, Items, no_items, item}
use Rattle.serde_json.specs.Find.{as_null, as_object, get, is_float}
use Rattle.serde_json.specs.Written.{compact_text}
use Rattle.ot_steps.specs.Text.{Value, Sent, key_text, value_text}
use Rattle.ot_steps.specs.declared.key.Key.{Key}
use Rattle.ot_steps.specs.declared.key.Key.TheVariants as key

-- the keys in the order in which they are compared: those that say which line it is, before the message,
abbrev pub first_keys : List Key
first_keys = key.At ∷ key.Clients ∷ key.Present ∷ key.Start ∷ key.Do ∷ key.Client ∷ []

-- and the others behind it
abbrev pub other_keys : List Key
other_keys =
    key.Edit
    ∷ key.Revision
    ∷ key.State
    ∷ key.Outstanding
    ∷ key.Buffer
    ∷ key.Sent
    ∷ key.SentRevision
    ∷ key.SentOperation
    ∷ key.Applied
    ∷ key.Appended
    ∷ key.Document
    ∷ key.End
    ∷ []

-- whether it is a part of the message under `sent`
abbrev pub is_part : Key → Bool
is_part key.SentRevision = true
is_part key.SentOperation = true
is_part _ = false

-- what a line says under a key, where it is printed
abbrev pub found_at : Key → Data → Option Data
found_at k d = if is_part k then option_and_then (get (key_text k)) (get (codes "sent") d) else get (key_text k) d

abbrev pub is_null : Data → Bool
is_null d = is_some (as_null d)

-- a value that is printed; `null` says that there is none
abbrev pub is_told : Option Data → Bool
is_told None = false
is_told (Some d) = not (is_null d)

-- a text, or a number without point and exponent; and an array of such
abbrev pub is_plain_item : Data → Bool
is_plain_item null = false
is_plain_item (boolean b) = false
is_plain_item (number n) = not (is_float n)
is_plain_item (string s) = true
is_plain_item (array ds) = false
is_plain_item (object ms) = false

abbrev pub are_plain : Items → Bool
are_plain no_items = true
are_plain (item d ds) = is_plain_item d && are_plain ds

abbrev pub is_plain : Data → Bool
is_plain null = false
is_plain (boolean b) = false
is_plain (number n) = not (is_float n)
is_plain (string s) = true
is_plain (array ds) = are_plain ds
is_plain (object ms) = false

-- it is written so, without blanks: `1.0` and `1e0` are no `1`
abbrev pub is_written : List ℕ → Data → Bool
is_written text d = is_plain d && bytes_eq (compact_text d) text

abbrev pub is_message : Value → Bool
is_message (Sent m) = true
is_message _ = false

-- what a port prints against what the run has, if it has something. What is not printed is not compared; `null` says that there is nothing; a
-- message is an object, and its parts are compared by themselves
abbrev pub agrees : Option Value → Option Data → Bool
agrees wanted None = true
agrees None (Some d) = is_null d
agrees (Some v) (Some d) = if is_message v then is_some (as_object d) else is_written (value_text v) d
