-- What is answered.
use Rattle.std.specs.Prelude.{◌≡◌, ℕ, suc, ◌-◌, ◌==◌, List, [], ◌∷◌, ◌++◌, Bool, true, false, MatchBool, Option, Some, None, is_some, codes, decimal, string_bytes, ◌||◌, unwrap_or, option_map, option_and_then, if◌then◌else◌}
use Rattle.std.specs.Str.{chars}
use Rattle.json.specs.Print.{quoted}
use Rattle.serde_json.specs.Data.{Data}
use Rattle.serde_json.specs.Find.{as_object, as_str, get}
use Rattle.serde_json.specs.Read.{read}
use Rattle.serde_json.specs.Written.{compact_text, has_float, IsInOrder}
use Rattle.ot_isa.specs.Program.{client_of}
use Rattle.ot_isa.specs.declared.instruction.Instr.{Instr}
use Rattle.ot_model.specs.declared.shown.Refusal.{Refusal}
use Rattle.ot_report.specs.Printed.{line}
use Rattle.ot_values.specs.Values.{refusal_text}
use Rattle.ot_steps.specs.Lines.{Line, word_of}
use Rattle.ot_steps.specs.Steps.{placed_client}
use Rattle.ot_steps.specs.Text.{Value, Text, key_text, line_text, text_at, value_at, value_text, word_text}
use Rattle.ot_conform.specs.Due.{DueLine, What, Opening, Instruction, End}
use Rattle.ot_conform.specs.Differences.{Outcome, Conforms, Differs, LeftOver, Stopped, field_of}
use Rattle.ot_conform.specs.Keys.{found_at, is_null}
use Rattle.ot_conform.specs.Ports.{PortLine, Told, OtherForm, NoText, Nothing}
use Rattle.ot_conform.specs.Counted.{counted_keys, is_nothing, tells}
use Rattle.ot_conform.specs.Received.{received_value}
use Rattle.ot_conform.specs.declared.answers.Difference.{Difference}
use Rattle.ot_conform.specs.declared.answers.Owner.{Owner}
use Rattle.ot_conform.specs.declared.answers.Owner.TheVariants as owner
use Rattle.ot_conform.specs.declared.malformed.Malformed.{Malformed}
use Rattle.ot_conform.specs.declared.malformed.Malformed.TheVariants as form
use Rattle.ot_conform.specs.declared.counts.Counts.{Counts}
use Rattle.ot_steps.specs.declared.key.Key.{Key}
use Rattle.ot_steps.specs.declared.key.Key.TheVariants as key
use Rattle.ot_conform.specs.declared.meeting.Field.{Field}
use Rattle.ot_conform.specs.declared.meeting.Field.TheVariants as field

-- ---- the first line of a difference

abbrev pub with_client : Option ℕ → List ℕ → List ℕ
with_client None word = word
with_client (Some c) word = word ++ 32 ∷ decimal c

abbrev pub instr_text : Instr → List ℕ
instr_text i = with_client (client_of i) (word_text (word_of i))

abbrev pub what_text : What → List ℕ
what_text Opening = codes "opening"
what_text (Instruction i) = instr_text i
what_text End = codes "end"

-- whether it is the message, or a value of the one that moved or was read
abbrev pub is_theirs : Field → Bool
is_theirs field.Message = true
is_theirs (field.Key key.Revision) = true
is_theirs (field.Key key.State) = true
is_theirs (field.Key key.Outstanding) = true
is_theirs (field.Key key.Buffer) = true
is_theirs (field.Key key.Sent) = true
is_theirs (field.Key key.SentRevision) = true
is_theirs (field.Key key.SentOperation) = true
is_theirs (field.Key key.Document) = true
is_theirs _ = false

-- a message's part has two words
abbrev pub field_name : Field → List ℕ
field_name field.Line = codes "line"
field_name field.Stopped = codes "stopped"
field_name field.Message = codes "message"
field_name (field.Key key.SentRevision) = codes "sent revision"
field_name (field.Key key.SentOperation) = codes "sent operation"
field_name (field.Key k) = key_text k

-- whose value it is
abbrev pub owner_in : Option ℕ → Owner
owner_in None = owner.Server
owner_in (Some c) = owner.Client c

abbrev pub owner_of : What → Field → Owner
owner_of (Instruction i) f = if is_theirs f then owner_in (placed_client i) else owner.Nobody
owner_of Opening f = owner.Nobody
owner_of End f = owner.Nobody

-- the field's name behind its owner
abbrev pub field_text : Owner → Field → List ℕ
field_text owner.Nobody f = field_name f
field_text owner.Server f = codes "server " ++ field_name f
field_text (owner.Client c) f = codes "client " ++ (decimal c ++ 32 ∷ field_name f)

-- differs at P: WHAT: FIELD
abbrev pub head_row : ℕ → List ℕ → List ℕ → List ℕ
head_row at what name = codes "differs at " ++ (decimal at ++ (codes ": " ++ (what ++ (codes ": " ++ line name))))

-- ---- what was found, and what the run has

-- compact JSON; which digits a float has is not said
abbrev pub IsJson : Data → List ℕ → Type 0
IsJson d text = IsInOrder text d × (has_float d ≡ false → text ≡ compact_text d)

abbrev pub IsValueText : List ℕ → Option Data → List ℕ → Type 0
IsValueText none None text = text ≡ none
IsValueText none (Some d) text = MatchBool (is_null d) (text ≡ none) (IsJson d text)

abbrev pub IsToldText : Field → Data → List ℕ → Type 0
IsToldText field.Line d text = IsJson d text
IsToldText field.Stopped d text = IsValueText (codes "performed") (get (codes "stopped") d) text
IsToldText field.Message d text = IsValueText (codes "none") (get (codes "message") d) text
IsToldText (field.Key k) d text = IsValueText (codes "none") (found_at k d) text

abbrev pub IsFoundText : Field → PortLine → List ℕ → Type 0
IsFoundText f (Told d) text = IsToldText f d text
IsFoundText f (OtherForm bytes) text = text ≡ quoted bytes
IsFoundText f NoText text = text ≡ codes "no UTF-8"
IsFoundText f Nothing text = text ≡ codes "nothing"

abbrev pub stopped_text : Option Refusal → List ℕ
stopped_text None = codes "performed"
stopped_text (Some refusal) = refusal_text refusal

-- of a line without its LF
abbrev pub IsWantedText : Field → DueLine → List ℕ → Type 0
IsWantedText field.Line due text = line text ≡ line_text due.shown
IsWantedText field.Stopped due text = text ≡ stopped_text due.line.stopped
IsWantedText field.Message due text = text ≡ unwrap_or (option_map value_text (option_map received_value due.received)) (codes "none")
IsWantedText (field.Key k) due text = text ≡ unwrap_or (text_at k due.line) (codes "none")

-- ---- for two texts, how many scalars at the front are equal

abbrev pub same_front : List ℕ → List ℕ → ℕ
same_front [] ys = 0
same_front (x ∷ xs) [] = 0
same_front (x ∷ xs) (y ∷ ys) = if x == y then suc (same_front xs ys) else 0

-- the characters of a text
abbrev pub letters_of : Value → Option (List ℕ)
letters_of (Text text) = Some text
letters_of _ = None

abbrev pub letters_at : Key → Line → Option (List ℕ)
letters_at k line = option_and_then letters_of (value_at k line)

abbrev pub front_of : Option (List ℕ) → Option (List ℕ) → Option ℕ
front_of None wanted = None
front_of (Some found) None = None
front_of (Some found) (Some wanted) = Some (same_front found wanted)

abbrev pub told_front : Field → Line → Data → Option ℕ
told_front (field.Key k) line d = front_of (option_map chars (option_and_then as_str (found_at k d))) (letters_at k line)
told_front _ line d = None

abbrev pub front_at : Field → Line → PortLine → Option ℕ
front_at f line (Told d) = told_front f line d
front_at f line _ = None

-- whether a line has the operation that an instruction applied
abbrev pub tells_operation : PortLine → Bool
tells_operation (Told d) = tells key.Edit d || (tells key.Applied d || tells key.Appended d)
tells_operation _ = false

-- ---- a difference

-- the number of the instruction that a line is of, counted from 0, where that was performed; the line's place is the one behind it
abbrev pub number_before : ℕ → Option ℕ
number_before at = if at == 0 then None else Some (at - 1)

abbrev pub number_of : What → Option Refusal → ℕ → Option ℕ
number_of Opening stopped at = None
number_of (Instruction i) None at = number_before at
number_of (Instruction i) (Some refusal) at = None
number_of End stopped at = None

-- the number of the instruction that a line is of, performed or not
abbrev pub instruction_of : What → Option Refusal → ℕ → Option ℕ
instruction_of Opening stopped at = None
instruction_of (Instruction i) None at = number_before at
instruction_of (Instruction i) (Some refusal) at = Some at
instruction_of End stopped at = None

-- a line of another form has no instruction
abbrev pub number_told : PortLine → Option ℕ → Option ℕ
number_told (Told d) number = number
number_told (OtherForm bytes) number = None
number_told NoText number = None
number_told Nothing number = number

-- what is wrong with a text that is no object with a place
abbrev pub form_of : Option Data → Malformed
form_of None = form.NoObject
form_of (Some d) = if is_some (as_object d) then (if is_some (get (codes "at") d) then form.BadPlace else form.NoPlace) else form.NoObject

abbrev pub malformed : PortLine → Option Malformed
malformed (Told d) = None
malformed (OtherForm bytes) = Some (form_of (read bytes))
malformed NoText = None
malformed Nothing = None

-- a line that differs at a field
pub record IsDifference (due : DueLine) (f : Field) (line : PortLine) (d : Difference) : Type 0 where
  pub place : d.place ≡ due.line.at
  pub what : string_bytes d.what ≡ what_text due.what
  pub instruction : d.instruction ≡ instruction_of due.what due.line.stopped due.line.at
  pub owner : d.owner ≡ owner_of due.what f
  pub field : d.field ≡ f
  pub found : IsFoundText f line (string_bytes d.found)
  pub wanted : IsWantedText f due (string_bytes d.wanted)
  pub front : d.front ≡ front_at f due.line line
  pub operation : d.tells_operation ≡ tells_operation line
  pub number : d.number ≡ number_told line (number_of due.what due.line.stopped due.line.at)
  pub malformed : d.malformed ≡ malformed line

-- a line differs from the one that is due, and this is the difference
abbrev pub IsCompared : DueLine → PortLine → Difference → Type 0
IsCompared due line d = (f : Field) × (field_of due line ≡ Some f) × IsDifference due f line d

-- a line behind the end
pub record IsLeftOver (last : ℕ) (left : PortLine) (d : Difference) : Type 0 where
  pub place : d.place ≡ last
  pub what : string_bytes d.what ≡ codes "after the end"
  pub instruction : d.instruction ≡ None
  pub owner : d.owner ≡ owner.Nobody
  pub found : IsFoundText field.Line left (string_bytes d.found)
  pub field : d.field ≡ field.Line
  pub wanted : string_bytes d.wanted ≡ codes "nothing"
  pub front : d.front ≡ None
  pub operation : d.tells_operation ≡ false
  pub number : d.number ≡ None
  pub malformed : d.malformed ≡ malformed left

abbrev pub IsDifferenceOf : Outcome → Difference → Type 0
IsDifferenceOf Conforms d = ⊥
IsDifferenceOf (Differs due f line) d = IsDifference due f line d
IsDifferenceOf (LeftOver last left) d = IsLeftOver last left d
IsDifferenceOf (Stopped at refusal) d = ⊥

abbrev pub wanted_row : List ℕ → List ℕ
wanted_row wanted = codes "ot.js " ++ line wanted

abbrev pub front_rows : Option ℕ → List ℕ
front_rows None = []
front_rows (Some n) = codes "place " ++ line (decimal n)

-- what is wrong with the line, as a note
abbrev pub malformed_sentence : Malformed → List ℕ
malformed_sentence form.NoObject = codes "the line is no JSON object"
malformed_sentence form.NoPlace = codes "the line has no \"at\""
malformed_sentence form.BadPlace = codes "\"at\" is no whole number from 0 on"

abbrev pub malformed_rows : Option Malformed → List ℕ
malformed_rows None = []
malformed_rows (Some m) = codes "note " ++ line (malformed_sentence m)

abbrev pub found_row : List ℕ → List ℕ
found_row found = codes "found " ++ line found

abbrev pub difference_text : Difference → List ℕ
difference_text d =
    head_row d.place (string_bytes d.what) (field_text d.owner d.field) ++ found_row (string_bytes d.found) ++ wanted_row (string_bytes d.wanted) ++ front_rows d.front

-- ---- no difference

abbrev pub count_text : List ℕ → ℕ → List ℕ
count_text name n = 32 ∷ (name ++ 32 ∷ decimal n)

-- the word of a key that is counted
abbrev pub count_name : Key → List ℕ
count_name key.SentOperation = codes "sent"
count_name k = key_text k

abbrev pub counts_text : List Key → List ℕ → List ℕ
counts_text [] ns = []
counts_text (k ∷ ks) [] = []
counts_text (k ∷ ks) (n ∷ ns) = count_text (count_name k) n ++ counts_text ks ns

-- where nothing is counted, the port does not conform
abbrev pub agreement_word : Bool → List ℕ
agreement_word true = codes "nothing compared"
agreement_word false = codes "conforms"

abbrev pub counts_row : Counts → List ℕ
counts_row c = codes "compared" ++ line (counts_text counted_keys c.values)

abbrev pub agreement_text : Counts → List ℕ
agreement_text c = line (agreement_word (is_nothing c)) ++ counts_row c
