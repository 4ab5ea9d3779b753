-- A text with names, where most bytes are passed over: those that neither begin nor end a name's place or a string.
use Rattle.std.specs.Prelude.{◌≡◌, ◌<◌, ℕ, Bool, true, false, ◌==◌, ◌&&◌, ◌||◌, not, List, [], ◌∷◌, ◌++◌, length, get_or, Option, None, Some, if◌then◌else◌}
use Rattle.ot_asm.specs.Named.{in_brackets, is_of_word, named, named_from}
use Rattle.ot_asm.specs.declared.place.Place.{Place}
use Rattle.ot_asm.specs.declared.place.Place.TheVariants.{Apart, Word, Client, Behind, Number, Inside, Escaped}

-- neither of two bytes is among these
abbrev pub has_neither : ℕ → ℕ → List ℕ → Bool
has_neither first second [] = true
has_neither first second (b ∷ bs) = not (b == first || b == second) && has_neither first second bs

-- outside of a string, and not in `client N`
abbrev pub is_outside : Place → Bool
is_outside Apart = true
is_outside Word = true
is_outside (Client count) = false
is_outside Behind = false
is_outside (Number n) = false
is_outside Inside = false
is_outside Escaped = false

-- behind a byte there that is neither `"` nor `c`, and behind several
abbrev pub byte_place : ℕ → Place
byte_place b = if is_of_word b then Word else Apart

abbrev pub last_place : Place → List ℕ → Place
last_place place [] = place
last_place place (b ∷ bs) = last_place (byte_place b) bs

-- the text as far as the rest is shown as it is; `place` stands before it, and `after` before the rest
pub record PassesOver (place : Place) (text : List ℕ) (after : Place) (rest : List ℕ) : Type 0 where
  pub front : List ℕ
  pub whole : text ≡ front ++ rest
  pub same : (names : List (List ℕ)) → named_from names place text ≡ front ++ named_from names after rest
  pub still : front ≡ [] → after ≡ place

-- a text goes on with a byte of a word
abbrev pub goes_on : List ℕ → Bool
goes_on [] = false
goes_on (b ∷ bs) = is_of_word b

-- the client whose number ends where the rest of a text begins
abbrev pub ended_number : Place → List ℕ → Option ℕ
ended_number Apart rest = None
ended_number Word rest = None
ended_number (Client count) rest = None
ended_number Behind rest = None
ended_number (Number n) rest = if goes_on rest then None else Some n
ended_number Inside rest = None
ended_number Escaped rest = None

-- the text is shown as it is as far as the end of a client's number; there the client's name stands
pub record SplitsAtNumber (text front : List ℕ) (client : ℕ) (rest : List ℕ) : Type 0 where
  pub whole : text ≡ front ++ rest
  pub less : length rest < length text
  pub same : (names : List (List ℕ)) → named names text ≡ front ++ (in_brackets (get_or names client []) ++ named names rest)
