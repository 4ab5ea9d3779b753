-- The first byte of an operation or of a start text that is wrong, and what is wrong there.
use Rattle.std.specs.Prelude.{ℕ, ◌+◌, ◌-◌, Bool, true, false, ◌&&◌, ◌||◌, ◌==◌, nat_lt, List, [], ◌∷◌, drop, get_or, is_some, Option, Some, None, Result, Ok, Err, codes, if◌then◌else◌}
use Rattle.json.specs.Text.{code_unit, is_high_surrogate, is_low_surrogate, short_escape}
use Rattle.ot_asm.specs.Numbers.{is_digit}
use Rattle.ot_asm.specs.Plain.{is_within}
use Rattle.ot_faults.specs.declared.causes.Before.{Before}
use Rattle.ot_faults.specs.declared.causes.Before.TheVariants.{Opening, Comma, Minus, Number, Component, Text, Escape, Closing}
use Rattle.ot_faults.specs.declared.causes.Note as code

-- a note on a text: at which byte it is wrong, and the words on it; no words where what is wanted says enough
pub record Note : Type 0 where
  pub at : ℕ
  pub words : List ℕ

abbrev pub note_value : code.Note → Note
note_value n = record { at = n.at; words = n.words.now }

abbrev pub noted : ℕ → List ℕ → Note
noted at words = record { at = at; words = words }

-- what stands before the next byte, or what is wrong with this one
abbrev pub Step : Type 0
Step = Result Before (List ℕ)

-- ---- strings

-- the number of an escape `\uXXXX` in front of a text
abbrev pub unit : List ℕ → Option ℕ
unit json = if get_or json 0 0 == 92 && get_or json 1 0 == 117 then code_unit (get_or json 2 0) (get_or json 3 0) (get_or json 4 0) (get_or json 5 0) else None

abbrev pub is_second_half : Option ℕ → Bool
is_second_half None = false
is_second_half (Some u) = is_low_surrogate u

-- how long such an escape is, before an escape or none: both halves of a surrogate pair together
abbrev pub unit_length : Option ℕ → Option ℕ → Result ℕ (List ℕ)
unit_length None later = Err (codes "\\u stands before four hexadecimal digits")
unit_length (Some u) later =
    if is_high_surrogate u && is_second_half later then Ok 12 else
    if is_high_surrogate u || is_low_surrogate u then Err (codes "this is half of a surrogate pair: the other half is missing") else
    Ok 6

-- how long an escape in front of a text is
abbrev pub escape_length : List ℕ → Result ℕ (List ℕ)
escape_length json =
    if is_some (short_escape (get_or json 1 0)) then Ok 2 else
    if get_or json 1 0 == 117 then unit_length (unit json) (unit (drop 6 json)) else
    Err (codes "this is no escape of JSON; a backslash is written \\\\")

abbrev pub begun : Result ℕ (List ℕ) → Step
begun (Ok count) = Ok (Escape (count - 1))
begun (Err words) = Err words

-- a byte of a string; `json` is the text from it on
abbrev pub in_string : ℕ → List ℕ → Step
in_string b json =
    if b == 34 then Ok Component else
    if b == 92 then begun (escape_length json) else
    if nat_lt b 32 then Err (codes "a control character in a string is written as an escape, such as \\t") else
    Ok Text

-- a byte of an escape of which so many are left
abbrev pub in_escape : ℕ → Before
in_escape left = if nat_lt 1 left then Escape (left - 1) else Text

-- ---- components

-- blanks of JSON in a line
abbrev pub is_space : ℕ → Bool
is_space b = b == 32 || (b == 9 || b == 13)

-- what is wrong with a byte that begins no component
abbrev pub no_component : ℕ → List ℕ
no_component b =
    if b == 48 then codes "no component is 0, and no number begins with 0" else
    if b == 46 then codes "numbers are whole" else
    if b == 39 then codes "strings stand in double quotes" else
    if b == 91 || b == 123 then codes "a component is a string or a number: nothing is nested" else
    if b == 44 then codes "a component is missing before this comma" else
    if b == 43 then codes "a number that retains has no sign" else
    codes "a component is a string in double quotes or a number"

abbrev pub at_component : ℕ → Step
at_component b =
    if b == 34 then Ok Text else
    if b == 45 then Ok Minus else
    if is_within 49 57 b then Ok (Number 1) else
    Err (no_component b)

abbrev pub behind_opening : ℕ → Step
behind_opening b = if is_space b then Ok Opening else if b == 93 then Ok Closing else at_component b

abbrev pub behind_comma : ℕ → Step
behind_comma b = if is_space b then Ok Comma else if b == 93 then Err (codes "a component is missing behind the last comma") else at_component b

abbrev pub behind_minus : ℕ → Step
behind_minus b =
    if is_within 49 57 b then Ok (Number 1) else
    if b == 48 then Err (codes "no component is 0, and no number begins with 0") else
    Err (codes "a number stands right behind its minus")

-- what is wrong with a byte that does not go on behind a component
abbrev pub no_comma : ℕ → List ℕ
no_comma b =
    if b == 46 then codes "numbers are whole" else
    if b == 39 then codes "strings stand in double quotes" else
    if b == 91 || b == 123 then codes "a component is a string or a number: nothing is nested" else
    if b == 34 || (b == 45 || is_digit b) then codes "a comma is missing before this component" else
    codes "a comma, or the bracket that closes the array, stands behind a component"

abbrev pub behind_component : ℕ → Step
behind_component b =
    if is_space b then Ok Component else
    if b == 44 then Ok Comma else
    if b == 93 then Ok Closing else
    Err (no_comma b)

-- behind so many digits of a number
abbrev pub in_number : ℕ → ℕ → Step
in_number digits b =
    if is_digit b then (if nat_lt digits 7 then Ok (Number (digits + 1)) else Err (codes "no document has more than 1000000 characters")) else
    if b == 101 || b == 69 then Err (codes "numbers are whole") else
    behind_component b

abbrev pub behind_array : ℕ → Step
behind_array b =
    if is_space b then Ok Closing else
    if b == 59 then Err (codes "a comment stands on a line of its own") else
    if b == 44 then Err (codes "no comma stands behind the array") else
    Err (codes "nothing stands behind the array")

-- a string that is no component, but all
abbrev pub behind_string : ℕ → Step
behind_string b =
    if is_space b then Ok Component else
    if b == 59 then Err (codes "a comment stands on a line of its own") else
    Err (codes "nothing stands behind the string")

-- ---- from byte to byte, in an array or in a string

abbrev pub next : Bool → Before → ℕ → List ℕ → Step
next is_array Opening b json = behind_opening b
next is_array Comma b json = behind_comma b
next is_array Minus b json = behind_minus b
next is_array (Number digits) b json = in_number digits b
next is_array Component b json = if is_array then behind_component b else behind_string b
next is_array Text b json = in_string b json
next is_array (Escape left) b json = Ok (in_escape left)
next is_array Closing b json = behind_array b

-- at the end of the text; where no byte is wrong, the array as a whole is
abbrev pub end_note : Bool → Before → ℕ → Note
end_note is_array Opening at = noted at (codes "the array is not closed")
end_note is_array Comma at = noted at (codes "the array is not closed")
end_note is_array Minus at = noted at (codes "the array is not closed")
end_note is_array (Number digits) at = noted at (codes "the array is not closed")
end_note is_array Component at = if is_array then noted at (codes "the array is not closed") else noted 0 []
end_note is_array Text at = noted at (codes "the string is not closed")
end_note is_array (Escape left) at = noted at (codes "the string is not closed")
end_note is_array Closing at = noted 0 (codes "this is no array of strings and numbers")

abbrev pub went_on : ℕ → Step → (Before → Note) → Note
went_on at (Ok after) further = further after
went_on at (Err words) further = noted at words

-- the first byte that is wrong, of those from number `at` on
unfoldable pub cause_from : Bool → ℕ → Before → List ℕ → Note
cause_from is_array at before [] = end_note is_array before at
cause_from is_array at before (b ∷ bs) = went_on at (next is_array before b (b ∷ bs)) (λ after. cause_from is_array (at + 1) after bs)

-- why a text is no operation
abbrev pub operation_note : List ℕ → Note
operation_note [] = noted 0 []
operation_note (b ∷ bs) = if b == 91 then cause_from true 1 Opening bs else noted 0 (codes "an operation is an array, and nothing round it")

-- why a text is no JSON string
abbrev pub string_note : List ℕ → Note
string_note [] = noted 0 []
string_note (b ∷ bs) = if b == 34 then cause_from false 1 Text bs else noted 0 []
