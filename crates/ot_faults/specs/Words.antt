-- The fault of a text in words, and as members of a JSON object.
use Rattle.std.specs.Prelude.{ℕ, List, [], ◌∷◌, ◌++◌, ◌==◌, length, Option, Some, None, codes, decimal, if◌then◌else◌}
use Rattle.json.specs.Print.{quoted}
use Rattle.ot_faults.specs.Faults.{Fault}
use Rattle.ot_faults.specs.Nearest.{word_text, words_at}
use Rattle.ot_faults.specs.declared.reached.Stage.{Stage}
use Rattle.ot_faults.specs.declared.wanted.Wanted.{Wanted}
use Rattle.ot_faults.specs.declared.wanted.Wanted.TheVariants as wanted
use Rattle.ot_faults.specs.declared.wanted.Word.{Word}

-- words with commas between them, and 'or' before the last
abbrev pub listed : List Word → List ℕ
listed [] = []
listed (w ∷ []) = word_text w
listed (w ∷ v ∷ []) = word_text w ++ (codes " or " ++ word_text v)
listed (w ∷ v ∷ u ∷ ws) = word_text w ++ (codes ", " ++ listed (v ∷ u ∷ ws))

abbrev pub stage_text : Stage → List ℕ
stage_text s = listed (words_at s)

abbrev pub wanted_text : Wanted → List ℕ
wanted_text wanted.Utf8 = codes "UTF-8"
wanted_text (wanted.Words s) = stage_text s
wanted_text (wanted.Number low high) = codes "a number from " ++ (decimal low ++ (codes " to " ++ decimal high))
wanted_text wanted.Text = codes "a JSON string"
wanted_text wanted.StartText = codes "a text of at most 40000 characters"
wanted_text wanted.Operation = codes "an operation, such as [1,\"a\",-2]"
wanted_text wanted.Lengths = codes "an operation with lengths of at most 1000000"
wanted_text wanted.Instructions = codes "at most 100000 instructions"
wanted_text wanted.End = codes "the end of the line"

abbrev pub nearest_text : Option Word → List ℕ
nearest_text None = []
nearest_text (Some word) = codes "; nearest: " ++ word_text word

-- a note where there is one
abbrev pub note_text : List ℕ → List ℕ
note_text note = if length note == 0 then [] else codes "; " ++ note

-- a line: where the fault stands, what stands there, what is wanted, the nearest word, and the note
abbrev pub fault_words : Fault → List ℕ
fault_words f =
    codes "  line " ++ (decimal f.line ++ (codes ", column " ++ (decimal f.column ++ (codes ": found " ++ (f.found ++ (codes "; wanted " ++ (wanted_text f.wanted
    ++ (nearest_text f.nearest ++ (note_text f.note ++ codes "\n")))))))))

abbrev pub nearest_member : Option Word → List ℕ
nearest_member None = []
nearest_member (Some word) = codes ",\"nearest\":" ++ quoted (word_text word)

abbrev pub note_member : List ℕ → List ℕ
note_member note = if length note == 0 then [] else codes ",\"note\":" ++ quoted note

-- the same as members; what is found is a text of JSON, or words
abbrev pub place_members : Fault → List ℕ
place_members f = codes "\"line\":" ++ (decimal f.line ++ (codes ",\"column\":" ++ (decimal f.column ++ (codes ",\"found\":" ++ quoted f.found))))

abbrev pub wanted_members : Fault → List ℕ
wanted_members f = codes ",\"wanted\":" ++ (quoted (wanted_text f.wanted) ++ (nearest_member f.nearest ++ note_member f.note))

abbrev pub fault_members : Fault → List ℕ
fault_members f = place_members f ++ wanted_members f
