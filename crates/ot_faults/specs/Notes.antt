-- The note on a line that is refused: a help to repair it.
use Rattle.std.specs.Prelude.{ℕ, Bool, ◌&&◌, ◌||◌, ◌==◌, nat_eq, List, [], ◌∷◌, get_or, codes, if◌then◌else◌}
use Rattle.std.specs.List.{starts_with}
use Rattle.std.specs.Str.{bytes_eq, is_utf8}
use Rattle.ot_asm.specs.Numbers.{is_digit}
use Rattle.ot_asm.specs.Plain.{is_within}
use Rattle.ot_asm.specs.Words.{first_word}
use Rattle.ot_asm.specs.declared.fault.Kind.{Kind}
use Rattle.ot_asm.specs.declared.fault.Kind.TheVariants.{BadText, NoClients, UnknownWord, BadNumber, BadClient, BadOperation, Extra, TooLong, TooMany, Memory, ReadFault}
use Rattle.ot_faults.specs.Causes.{Note, noted, operation_note, string_note}

-- a line that begins with this byte, or other words
abbrev pub byte_words : ℕ → List ℕ → List ℕ
byte_words b other =
    if b == 35 || b == 47 then codes "a comment begins with `;`" else
    if is_within 65 90 b then codes "words are in lower case" else
    other

-- a first line that does not begin with `clients`; EF BB BF is the byte order mark
abbrev pub first_words : List ℕ → List ℕ
first_words [] = codes "no line says `clients N`"
first_words (b ∷ bs) =
    if starts_with nat_eq (b ∷ bs) (0xEF ∷ 0xBB ∷ 0xBF ∷ []) then codes "a byte order mark stands in front: save the text as UTF-8 without it"
    else byte_words b (codes "`clients N` is the first line, above all others but comments")

-- a line that does not begin with its first word
abbrev pub word_words : List ℕ → List ℕ → List ℕ
word_words word line =
    if bytes_eq word (codes "clients") then codes "this line stands once, and first" else
    if bytes_eq word (codes "present") then codes "this line stands once, directly below `clients N`" else
    if bytes_eq word (codes "start") then codes "this line stands once, above all instructions" else
    if bytes_eq line (codes "%%") then codes "`%%` and what stands behind it are read by debug, conform and view alone" else
    byte_words (get_or line 0 0) []

-- without the digits in front
abbrev pub behind_digits : List ℕ → List ℕ
behind_digits [] = []
behind_digits (b ∷ bs) = if is_digit b then behind_digits bs else b ∷ bs

-- `12[`
abbrev pub is_glued : List ℕ → Bool
is_glued rest = is_digit (get_or rest 0 0) && get_or (behind_digits rest) 0 0 == 91

-- no number where one is wanted behind the first word
abbrev pub number_words : List ℕ → List ℕ → List ℕ
number_words word rest =
    if is_glued rest then codes "a blank is missing behind the number" else
    if bytes_eq word (codes "read") && bytes_eq (first_word rest) (codes "server") then codes "the server's document is read by `read-server`" else
    []

-- a word too many
abbrev pub extra_words : List ℕ → List ℕ
extra_words rest = if get_or rest 0 0 == 59 then codes "a comment stands on a line of its own" else []

-- on a fault of this kind in a trimmed line, of which `rest` is what stands from the word on that is wrong
abbrev pub note_in : Kind → List ℕ → List ℕ → Note
note_in BadText line rest = if is_utf8 line then string_note rest else noted 0 []
note_in NoClients line rest = noted 0 (first_words line)
note_in UnknownWord line rest = noted 0 (word_words (first_word line) line)
note_in BadNumber line rest = noted 0 (number_words (first_word line) rest)
note_in BadClient line rest = noted 0 []
note_in BadOperation line rest = operation_note rest
note_in Extra line rest = noted 0 (extra_words rest)
note_in TooLong line rest = noted 0 []
note_in TooMany line rest = noted 0 []
note_in Memory line rest = noted 0 []
note_in ReadFault line rest = noted 0 []

-- a text with this first line begins as an image does
abbrev pub is_image : List ℕ → Bool
is_image first = starts_with nat_eq first (codes "OTS1") || starts_with nat_eq first (codes "OTS2")

abbrev pub note_of : List ℕ → Kind → List ℕ → List ℕ → Note
note_of first kind line rest = if is_image first then noted 0 (codes "this is an image, which `run --image` and `dis` read") else note_in kind line rest
