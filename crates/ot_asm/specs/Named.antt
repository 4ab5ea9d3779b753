-- A text with the clients' names: ` (NAME)` behind each `client N` that stands outside of a JSON string.
use Rattle.std.specs.Prelude.{ℕ, ◌+◌, ◌-◌, ◌*◌, Bool, false, ◌==◌, ◌&&◌, ◌||◌, nat_lt, List, [], ◌∷◌, ◌++◌, get_or, codes, if◌then◌else◌}
use Rattle.ot_asm.specs.Numbers.{is_digit}
use Rattle.ot_asm.specs.Plain.{is_within}
use Rattle.ot_asm.specs.declared.place.Place.{Place}
use Rattle.ot_asm.specs.declared.place.Place.TheVariants.{Apart, Word, Client, Behind, Number, Inside, Escaped}

-- a byte of a word: a digit, a letter of ASCII or `_`
abbrev pub is_letter : ℕ → Bool
is_letter b = is_within 65 90 b || (is_within 97 122 b || b == 95)

abbrev pub is_of_word : ℕ → Bool
is_of_word b = is_digit b || is_letter b

-- ---- where one stands in a text

-- behind the first byte of a word
abbrev pub begun : ℕ → Place
begun b = if b == 99 then Client 1 else Word

-- behind one more byte of a word
abbrev pub in_word : Place → ℕ → Place
in_word Apart b = begun b
in_word Word b = Word
in_word (Client count) b = if nat_lt count 6 && get_or (codes "client") count 0 == b then Client (count + 1) else Word
in_word Behind b = if is_digit b then Number (b - 48) else begun b
in_word (Number n) b = if is_digit b && nat_lt n 100000000 then Number (n * 10 + (b - 48)) else Word
in_word Inside b = Inside
in_word Escaped b = Inside

-- the word is `client`
abbrev pub is_client : Place → Bool
is_client Apart = false
is_client Word = false
is_client (Client count) = count == 6
is_client Behind = false
is_client (Number n) = false
is_client Inside = false
is_client Escaped = false

-- behind a byte outside of a string
abbrev pub outside : Place → ℕ → Place
outside place b =
    if is_of_word b then in_word place b else
    if b == 34 then Inside else
    if b == 32 && is_client place then Behind else
    Apart

-- behind a byte
abbrev pub next : Place → ℕ → Place
next Apart b = outside Apart b
next Word b = outside Word b
next (Client count) b = outside (Client count) b
next Behind b = outside Behind b
next (Number n) b = outside (Number n) b
next Inside b = if b == 92 then Escaped else if b == 34 then Apart else Inside
next Escaped b = Inside

-- ---- the names

abbrev pub in_brackets : List ℕ → List ℕ
in_brackets [] = []
in_brackets (b ∷ bs) = codes " (" ++ ((b ∷ bs) ++ codes ")")

-- the name that stands here, where a number ends
abbrev pub name_at : List (List ℕ) → Place → List ℕ
name_at names Apart = []
name_at names Word = []
name_at names (Client count) = []
name_at names Behind = []
name_at names (Number n) = in_brackets (get_or names n [])
name_at names Inside = []
name_at names Escaped = []

-- before the next byte
abbrev pub before_byte : List (List ℕ) → Place → ℕ → List ℕ
before_byte names place b = if is_of_word b then [] else name_at names place

-- the rest of a text from a place on
abbrev pub named_from : List (List ℕ) → Place → List ℕ → List ℕ
named_from names place [] = name_at names place
named_from names place (b ∷ bs) = before_byte names place b ++ (b ∷ named_from names (next place b) bs)

unfoldable pub named : List (List ℕ) → List ℕ → List ℕ
named names text = named_from names Apart text
