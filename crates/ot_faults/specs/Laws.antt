-- The words and the numbers that are wanted are those that ot_asm takes.
use Rattle.std.specs.Prelude.{◌≡◌, ℕ, ◌-◌, Bool, true, false, ◌&&◌, ◌||◌, not, nat_le, List, [], ◌∷◌, codes, take, Option, Some, None, Result, Ok, Err}
use Rattle.std.specs.Str.{bytes_eq, is_utf8}
use Rattle.ot_asm.specs.Numbers.{number}
use Rattle.ot_asm.specs.Stepping.{BodyView, line_step, run}
use Rattle.ot_asm.specs.Words.{after_word, counts, first_word, trimmed}
use Rattle.ot_asm.specs.declared.fault.Kind.{Kind}
use Rattle.ot_asm.specs.declared.fault.Kind.TheVariants.{BadText, NoClients, UnknownWord, BadNumber, BadClient, BadOperation, Extra, TooLong, TooMany, Memory, ReadFault}
use Rattle.ot_asm.specs.declared.section.Section.{Section}
use Rattle.ot_asm.specs.declared.section.Section.TheVariants as section
use Rattle.ot_faults.specs.Faults.{range_of}
use Rattle.ot_faults.specs.Nearest.{word_text, words_at}
use Rattle.ot_faults.specs.Reached.{opening, reached_at}
use Rattle.ot_faults.specs.declared.reached.Reached.{Reached}
use Rattle.ot_faults.specs.declared.reached.Stage.{Stage}
use Rattle.ot_faults.specs.declared.reached.Stage.TheVariants.{AfterClients, AfterPresent, InBody}
use Rattle.ot_faults.specs.declared.wanted.Wanted.{Wanted}
use Rattle.ot_faults.specs.declared.wanted.Wanted.TheVariants as wanted
use Rattle.ot_faults.specs.declared.wanted.Word.{Word}

-- ---- what ot_asm has made of the lines before

abbrev pub stage_of : Section → Stage
stage_of section.AfterClients = AfterClients
stage_of section.AfterPresent = AfterPresent
stage_of section.InBody = InBody

abbrev pub reached_of : Option BodyView → Reached
reached_of None = opening
reached_of (Some draft) = record { stage = stage_of draft.section; clients = draft.program.clients }

-- the lines before number `at` have no fault, and ot_asm makes this of them
abbrev pub Makes : List (List ℕ) → ℕ → Option BodyView → Type 0
Makes lines at draft = run 1 None (take (at - 1) lines) ≡ Ok draft

abbrev pub StagesAreMade : Type 0
StagesAreMade = (lines : List (List ℕ)) (at : ℕ) (draft : Option BodyView) → Makes lines at draft → reached_at lines at ≡ reached_of draft

-- ---- the first word of a line

-- ot_asm takes it: it refuses the line for it by these two faults
abbrev pub takes_word : Result (Option BodyView) Kind → Bool
takes_word (Ok draft) = true
takes_word (Err BadText) = true
takes_word (Err NoClients) = false
takes_word (Err UnknownWord) = false
takes_word (Err BadNumber) = true
takes_word (Err BadClient) = true
takes_word (Err BadOperation) = true
takes_word (Err Extra) = true
takes_word (Err TooLong) = true
takes_word (Err TooMany) = true
takes_word (Err Memory) = true
takes_word (Err ReadFault) = true

abbrev pub is_one_of : List ℕ → List Word → Bool
is_one_of word [] = false
is_one_of word (w ∷ ws) = bytes_eq word (word_text w) || is_one_of word ws

-- whatever line stands there: ot_asm takes its first word exactly where it is one of those that are wanted
abbrev pub WordsAreTaken : Type 0
WordsAreTaken = (lines : List (List ℕ)) (at : ℕ) (draft : Option BodyView) (line : List ℕ) → Makes lines at draft → is_utf8 line ≡ true → counts (trimmed line) ≡ true
    → takes_word (line_step draft line) ≡ is_one_of (first_word (trimmed line)) (words_at (reached_at lines at).stage)

-- ---- the number behind it

-- ot_asm takes it: it refuses the line for it by these two faults
abbrev pub takes_number : Result (Option BodyView) Kind → Bool
takes_number (Ok draft) = true
takes_number (Err BadText) = true
takes_number (Err NoClients) = true
takes_number (Err UnknownWord) = true
takes_number (Err BadNumber) = false
takes_number (Err BadClient) = false
takes_number (Err BadOperation) = true
takes_number (Err Extra) = true
takes_number (Err TooLong) = true
takes_number (Err TooMany) = true
takes_number (Err Memory) = true
takes_number (Err ReadFault) = true

-- a number stands behind each word but these
abbrev pub has_number : List ℕ → Bool
has_number word = not (bytes_eq word (codes "start") || bytes_eq word (codes "read-server"))

abbrev pub is_in : Wanted → Option ℕ → Bool
is_in (wanted.Number low high) (Some n) = nat_le low n && nat_le n high
is_in (wanted.Number low high) None = false
is_in w n = false

-- of a line whose first word is taken, and has a number behind it: ot_asm takes that exactly where it is in the range that is wanted
abbrev pub NumbersAreTaken : Type 0
NumbersAreTaken = (lines : List (List ℕ)) (at : ℕ) (draft : Option BodyView) (line : List ℕ) → Makes lines at draft → is_utf8 line ≡ true → counts (trimmed line) ≡ true
    → takes_word (line_step draft line) ≡ true → has_number (first_word (trimmed line)) ≡ true
    → takes_number (line_step draft line) ≡ is_in (range_of (first_word (trimmed line)) (reached_at lines at).clients) (number (first_word (after_word (trimmed line))))
