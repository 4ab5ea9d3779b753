-- The words for values: operations, documents, entries of the log.
use Rattle.std.specs.Prelude.{ℕ, List, [], ◌++◌, ◌&&◌, ◌==◌, length, nat_le, nat_lt, slice_get, unwrap_or, Bool, Option, Some, None, codes, decimal, if◌then◌else◌}
use Rattle.std.specs.Option.{option_map}
use Rattle.std.specs.Str.{encode_utf8_all}
use Rattle.json.specs.Print.{quoted}
use Rattle.ot_operation.specs.Run.{normal_runs}
use Rattle.ot_isa.specs.declared.elements.Tagged.{Tagged}
use Rattle.ot_isa.specs.Tagging.{chars_of}
use Rattle.ot_json.specs.Writing.{text_of_operation}
use Rattle.ot_model.specs.Operation.{Operation, inserted}
use Rattle.ot_model.specs.Table.{Client, Entry, State}
use Rattle.ot_steps.specs.Lines.{plain_operation}

-- whether an operation is shown whole: it has at most 40 components and inserts at most 200 characters in all
abbrev pub is_short : {A : Type 0} → Operation A → Bool
is_short op = nat_le (length (normal_runs op)) 40 && nat_le (inserted op) 200

-- words, a number, and words behind it
abbrev pub number : List ℕ → ℕ → List ℕ → List ℕ
number words n more = words ++ (decimal n ++ more)

-- so many components, from a base length to a target length: [41 components, which make 60 characters of 20]
abbrev pub size_words : ℕ → ℕ → ℕ → List ℕ
size_words count base target =
    if count == 1 then codes "[1 component, which makes " ++ (decimal target ++ (codes " characters of " ++ (decimal base ++ codes "]")))
    else codes "[" ++ (decimal count ++ (codes " components, which make " ++ (decimal target ++ (codes " characters of " ++ (decimal base ++ codes "]")))))

abbrev pub size_text : {A : Type 0} → Operation A → List ℕ
size_text op = size_words (length (normal_runs op)) op.base (length op.image)

-- a short operation as JSON, a long one by its size
unfoldable pub operation_words : Operation ℕ → List ℕ
operation_words op = if is_short op then text_of_operation op else size_text op

-- these words and the operation, or where there is none the other words
abbrev pub with_operation : List ℕ → Option (Operation ℕ) → List ℕ → List ℕ
with_operation words None other = other
with_operation words (Some op) other = words ++ operation_words op

-- an entry of the log, where there is one, as there always is for a delivery
abbrev pub entry_text : Option Entry → List ℕ
entry_text None = codes "nothing"
entry_text (Some h) = number (codes "client ") h.maker (codes "'s operation ") ++ operation_words (plain_operation h.op)

-- a text of at most 80 characters as a JSON string, else how long it is
abbrev pub document_text : List ℕ → List ℕ
document_text chars = if nat_lt 80 (length chars) then decimal (length chars) ++ codes " characters long" else quoted (encode_utf8_all chars)

abbrev pub list_text : List Tagged → List ℕ
list_text list = document_text (chars_of list)

-- these words, the document and the line's end
abbrev pub document_words : List ℕ → List Tagged → List ℕ
document_words words list = words ++ (list_text list ++ codes "\n")

-- what is said of client c, where it is there
abbrev pub of_client : State → ℕ → (Client → List ℕ) → List ℕ
of_client s c words = unwrap_or (option_map words (slice_get s.clients c)) []
