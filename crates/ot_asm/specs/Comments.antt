-- What the comments of a schedule's text tell: the clients' names, and that a recorded session went on.
use Rattle.std.specs.Prelude.{ℕ, zero, suc, Bool, false, ◌==◌, ◌&&◌, nat_lt, List, [], ◌∷◌, ◌++◌, Option, Some, None, codes, if◌then◌else◌}
use Rattle.std.specs.Str.{bytes_eq}
use Rattle.streams.specs.Lines.{lines_of}
use Rattle.ot_asm.specs.Numbers.{number}
use Rattle.ot_asm.specs.Words.{after_word, first_word, trimmed}
use Rattle.ot_isa.specs.declared.builder.TheConstants.{CLIENT_LIMIT}
use Rattle.ot_asm.specs.Plain.{shown}

-- the names by client, an empty one where there is none; and what is said of the cut, if there is one
pub record Said : Type 0 where
  pub names : List (List ℕ)
  pub cut : Option (List ℕ)

abbrev pub nothing_said : Said
nothing_said = record { names = []; cut = None }

-- ---- one comment

-- behind the `;` of a comment, without blanks at both ends; nothing of another line
abbrev pub behind_sign : List ℕ → List ℕ
behind_sign [] = []
behind_sign (b ∷ bs) = if b == 59 then trimmed bs else []

abbrev pub comment_words : List ℕ → List ℕ
comment_words line = behind_sign (trimmed line)

-- `client N is NAME`: the number N
abbrev pub client_in : List ℕ → Option ℕ
client_in words =
    if bytes_eq (first_word words) (codes "client") && bytes_eq (first_word (after_word (after_word words))) (codes "is") then number (first_word (after_word words))
    else None

-- and NAME
abbrev pub name_in : List ℕ → List ℕ
name_in words = after_word (after_word (after_word words))

abbrev pub is_quoted : List ℕ → Bool
is_quoted [] = false
is_quoted (b ∷ bs) = b == 34

-- `cut: ".."`
abbrev pub is_cut : List ℕ → Bool
is_cut words = bytes_eq (first_word words) (codes "cut:") && is_quoted (after_word words)

-- ---- all comments: the last one about something counts

-- the names, with that of client n
abbrev pub with_name : List (List ℕ) → ℕ → List ℕ → List (List ℕ)
with_name [] zero name = name ∷ []
with_name [] (suc n) name = [] ∷ with_name [] n name
with_name (x ∷ names) zero name = name ∷ names
with_name (x ∷ names) (suc n) name = x ∷ with_name names n name

-- what was said, and then a comment with these words, which names this client or none
abbrev pub with_client : Said → Option ℕ → List ℕ → Said
with_client said None words = if is_cut words then record said { cut = Some (shown (after_word words)) } else said
with_client said (Some n) words = if nat_lt n CLIENT_LIMIT then record said { names = with_name said.names n (shown (name_in words)) } else said

abbrev pub with_words : Said → List ℕ → Said
with_words said words = with_client said (client_in words) words

abbrev pub with_lines : Said → List (List ℕ) → Said
with_lines said [] = said
with_lines said (line ∷ lines) = with_lines (with_words said (comment_words line)) lines

-- what the comments among lines tell, and those of a text
unfoldable pub comments_among : List (List ℕ) → Said
comments_among lines = with_lines nothing_said lines

abbrev pub comments_of : List ℕ → Said
comments_of text = comments_among (lines_of text)

-- ---- the cut in words

-- words behind a colon, if there are some
abbrev pub behind_colon : List ℕ → List ℕ
behind_colon [] = []
behind_colon (b ∷ bs) = codes ": " ++ (b ∷ bs)

abbrev pub cut_words : List ℕ → List ℕ
cut_words words = codes "the schedule ends before its logs" ++ (behind_colon words ++ codes "\n")

-- the line that tells of the cut, if there is one
abbrev pub cut_text : Option (List ℕ) → List ℕ
cut_text None = []
cut_text (Some words) = cut_words words
