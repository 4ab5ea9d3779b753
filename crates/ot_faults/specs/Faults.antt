-- The fault of a text: where it stands, what stands there, and what is wanted.
use Rattle.std.specs.Prelude.{ℕ, ◌+◌, ◌-◌, Bool, true, false, ◌||◌, ◌==◌, nat_le, nat_lt, List, [], ◌∷◌, length, take, drop, Option, None, codes, string_bytes, if◌then◌else◌}
use Rattle.std.specs.List.{count_by}
use Rattle.std.specs.Str.{bytes_eq, is_utf8}
use Rattle.std.specs.Str.Lossy.{utf8_valid_len}
use Rattle.ot_isa.specs.declared.builder.TheConstants.{CLIENT_LIMIT}
use Rattle.ot_asm.specs.Words.{after_word, first_word, is_blank, trimmed}
use Rattle.ot_asm.specs.declared.fault.AsmFault.{AsmFault}
use Rattle.ot_asm.specs.declared.fault.Kind.{Kind}
use Rattle.ot_asm.specs.declared.fault.Kind.TheVariants.{BadText, NoClients, UnknownWord, BadNumber, BadClient, BadOperation, Extra, TooLong, TooMany, Memory, ReadFault}
use Rattle.ot_faults.specs.Causes.{Note}
use Rattle.ot_faults.specs.Nearest.{nearest_among, words_at}
use Rattle.ot_faults.specs.Notes.{note_of}
use Rattle.ot_faults.specs.Reached.{line_at, reached_at}
use Rattle.ot_faults.specs.Shown.{found_text}
use Rattle.ot_faults.specs.declared.faults.LineFault.{LineFault}
use Rattle.ot_faults.specs.declared.reached.Reached.{Reached}
use Rattle.ot_faults.specs.declared.reached.Stage.TheVariants as stage
use Rattle.ot_faults.specs.declared.wanted.Wanted.{Wanted}
use Rattle.ot_faults.specs.declared.wanted.Wanted.TheVariants as wanted
use Rattle.ot_faults.specs.declared.wanted.Word.{Word}

-- ---- where it stands

-- how many blanks stand in front of a line
abbrev pub leading : List ℕ → ℕ
leading [] = 0
leading (b ∷ bs) = if is_blank b then leading bs + 1 else 0

-- how many words stand before the one that is wrong, by the fault's kind and the line's first word
abbrev pub words_before : Kind → List ℕ → ℕ
words_before BadText word = 1
words_before NoClients word = 0
words_before UnknownWord word = 0
words_before BadNumber word = 1
words_before BadClient word = 1
words_before BadOperation word = 2
words_before Extra word = if bytes_eq word (codes "read-server") then 1 else 2
words_before TooLong word = if bytes_eq word (codes "start") then 1 else 2
words_before TooMany word = 0
words_before Memory word = 0
words_before ReadFault word = 0

-- a trimmed line without so many words in front
abbrev pub without_words : ℕ → List ℕ → List ℕ
without_words count line = if count == 0 then line else if count == 1 then after_word line else after_word (after_word line)

-- how many bytes of a trimmed line stand before that word; in a line that is not UTF-8, before the first byte that is not
abbrev pub start_of : Kind → List ℕ → ℕ
start_of kind line =
    if is_utf8 line then length line - length (without_words (words_before kind (first_word line)) line)
    else utf8_valid_len line

-- how many characters bytes are
abbrev pub begins : ℕ → Bool
begins b = nat_lt b 128 || nat_le 192 b

abbrev pub characters : List ℕ → ℕ
characters bytes = count_by begins bytes

-- ---- what is wanted there

abbrev pub range_of : List ℕ → ℕ → Wanted
range_of word clients =
    if bytes_eq word (codes "clients") then wanted.Number 1 CLIENT_LIMIT
    else if bytes_eq word (codes "present") then wanted.Number 0 clients
    else wanted.Number 0 (clients - 1)

abbrev pub wanted_of : Kind → Reached → List ℕ → Bool → Wanted
wanted_of BadText r word text = if text then wanted.Text else wanted.Utf8
wanted_of NoClients r word text = wanted.Words stage.Opening
wanted_of UnknownWord r word text = wanted.Words r.stage
wanted_of BadNumber r word text = range_of word r.clients
wanted_of BadClient r word text = range_of word r.clients
wanted_of BadOperation r word text = wanted.Operation
wanted_of Extra r word text = wanted.End
wanted_of TooLong r word text = if bytes_eq word (codes "start") then wanted.StartText else wanted.Lengths
wanted_of TooMany r word text = wanted.Instructions
wanted_of Memory r word text = wanted.Instructions
wanted_of ReadFault r word text = wanted.Instructions

-- of words that are wanted the one nearest to what stands there
abbrev pub nearest_wanted : List ℕ → Wanted → Option Word
nearest_wanted found wanted.Utf8 = None
nearest_wanted found (wanted.Words s) = if is_utf8 found then nearest_among found (words_at s) else None
nearest_wanted found (wanted.Number low high) = None
nearest_wanted found wanted.Text = None
nearest_wanted found wanted.StartText = None
nearest_wanted found wanted.Operation = None
nearest_wanted found wanted.Lengths = None
nearest_wanted found wanted.Instructions = None
nearest_wanted found wanted.End = None

-- ---- the fault

pub record Fault : Type 0 where
  pub line : ℕ
  pub column : ℕ
  pub found : List ℕ
  pub wanted : Wanted
  pub nearest : Option Word
  pub note : List ℕ

abbrev pub fault_value : LineFault → Fault
fault_value f = record { line = f.line; column = f.column; found = string_bytes f.found; wanted = f.wanted; nearest = f.nearest; note = f.note.now }

-- what stands there: a character, and what follows it up to the first blank
abbrev pub word_there : List ℕ → List ℕ
word_there [] = []
word_there (b ∷ bs) = b ∷ first_word bs

abbrev pub fault_of : ℕ → ℕ → List ℕ → Wanted → List ℕ → Fault
fault_of line column found w note = record { line = line; column = column; found = found_text found; wanted = w; nearest = nearest_wanted found w; note = note }

-- that of a trimmed line with so many blanks in front: the column counts characters from 1, and what is found stands behind so many bytes
abbrev pub fault_at : Reached → ℕ → List ℕ → AsmFault → ℕ → List ℕ → Fault
fault_at r blanks line fault at note =
    fault_of fault.line (blanks + characters (take at line) + 1) (word_there (drop at line)) (wanted_of fault.kind r (first_word line) (is_utf8 line)) note

-- the word that is wrong stands behind `start` bytes, and is wrong at the byte of the note
abbrev pub noted_fault : Reached → ℕ → List ℕ → AsmFault → ℕ → Note → Fault
noted_fault r blanks line fault start note = fault_at r blanks line fault (start + note.at) note.words

-- that of a trimmed line in a text with this first line
abbrev pub trimmed_fault : List ℕ → Reached → ℕ → List ℕ → AsmFault → ℕ → Fault
trimmed_fault first r blanks line fault start = noted_fault r blanks line fault start (note_of first fault.kind line (drop start line))

abbrev pub line_fault : List ℕ → Reached → List ℕ → AsmFault → Fault
line_fault first r line fault = trimmed_fault first r (leading line) (trimmed line) fault (start_of fault.kind (trimmed line))

-- the fault of a text with these lines
abbrev pub text_fault : List (List ℕ) → AsmFault → Fault
text_fault lines fault = line_fault (line_at lines 1) (reached_at lines fault.line) (line_at lines fault.line) fault

-- out of memory and a read that failed are no faults of the text
abbrev pub is_of_text : Kind → Bool
is_of_text Memory = false
is_of_text ReadFault = false
is_of_text kind = true
