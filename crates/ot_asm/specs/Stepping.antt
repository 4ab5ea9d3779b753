-- What one line does, and the first fault of a text.
use Rattle.std.specs.Prelude.{◌≡◌, ◌≤◌, ℕ, ◌+◌, ◌-◌, take, drop, IsOk, ◌||◌, nat_lt, nat_le, List, [], ◌∷◌, length, Option, Some, None, option_map, option_and_then, Result, Ok, Err, if◌then◌else◌}
use Rattle.std.specs.Str.{chars, is_utf8}
use Rattle.serde_json.specs.Data.{Data}
use Rattle.serde_json.specs.Find.{as_str}
use Rattle.serde_json.specs.Read.{read}
use Rattle.ot_operation.specs.Operation.{Operation}
use Rattle.ot_isa.specs.Program.{Program, opening, with_instr}
use Rattle.ot_isa.specs.declared.instruction.Instr.{Instr}
use Rattle.ot_isa.specs.declared.instruction.Instr.TheVariants as instr
use Rattle.ot_json.specs.Reading.{operation_of_json}
use Rattle.ot_json.specs.declared.fault.OpFault.{OpFault}
use Rattle.ot_json.specs.declared.fault.OpFault.TheVariants as op_fault
use Rattle.streams.specs.Lines.{lines_of}
use Rattle.ot_asm.specs.Words.{trimmed, counts, first_word, after_word, keyword_of}
use Rattle.ot_asm.specs.Numbers.{number}
use Rattle.ot_asm.specs.declared.keyword.Keyword.{Keyword}
use Rattle.ot_asm.specs.declared.keyword.Keyword.TheVariants as word
use Rattle.ot_asm.specs.declared.fault.Kind.{Kind}
use Rattle.ot_asm.specs.declared.fault.Kind.TheVariants.{BadText, NoClients, UnknownWord, BadNumber, BadClient, BadOperation, Extra, TooLong, TooMany, Memory}
use Rattle.ot_asm.specs.declared.fault.AsmFault.{AsmFault}
use Rattle.ot_asm.specs.declared.section.Section.{Section}
use Rattle.ot_asm.specs.declared.section.Section.TheVariants.{AfterClients, AfterPresent, InBody}
use Rattle.ot_isa.specs.declared.builder.TheConstants.{CLIENT_LIMIT, INSTR_LIMIT, START_LIMIT}

-- the schedule so far, once the line of the clients was read, and where the next line stands
pub record BodyView : Type 0 where
  pub section : Section
  pub program : Program

-- the answer of a line that counts
abbrev pub Answer : Type 0
Answer = Result BodyView Kind

abbrev pub drafted : Section → Program → Answer
drafted place program = Ok (record { section = place; program = program })

-- the number that a word is, handed on
abbrev pub with_number : Option ℕ → (ℕ → Answer) → Answer
with_number None then_do = Err BadNumber
with_number (Some n) then_do = then_do n

-- nothing more stands on the line
abbrev pub at_end : List ℕ → Answer → Answer
at_end [] answer = answer
at_end (b ∷ bs) answer = Err Extra

-- one more instruction
abbrev pub pushed : Program → Instr → Answer
pushed program i = if nat_le INSTR_LIMIT (length program.instrs) then Err TooMany else drafted InBody (with_instr program i)

-- `clients N`
abbrev pub clients_line : List ℕ → Answer
clients_line rest = with_number (number (first_word rest)) (λ n.
    if nat_lt n 1 || nat_lt CLIENT_LIMIT n then Err BadClient else at_end (after_word rest) (drafted AfterClients (opening n n [])))

-- `present P`
abbrev pub present_line : Program → List ℕ → Answer
present_line program rest = with_number (number (first_word rest)) (λ n.
    if nat_lt program.clients n then Err BadClient else at_end (after_word rest) (drafted AfterPresent (opening program.clients n [])))

-- the JSON value that bytes are
abbrev pub json_of : List ℕ → Option Data
json_of bytes = if is_utf8 bytes then read bytes else None

-- the characters of the JSON string that bytes are
abbrev pub string_of_text : List ℕ → Option (List ℕ)
string_of_text bytes = option_map chars (option_and_then as_str (json_of bytes))

abbrev pub with_start : Program → Option (List ℕ) → Answer
with_start program None = Err BadText
with_start program (Some start) = if nat_lt START_LIMIT (length start) then Err TooLong else drafted InBody (opening program.clients program.present start)

-- `start S`
abbrev pub start_line : Program → List ℕ → Answer
start_line program rest = with_start program (string_of_text rest)

-- the operation that the rest of a line is
abbrev pub operation_of_rest : List ℕ → Result (Operation ℕ) OpFault
operation_of_rest bytes = operation_of_json (json_of bytes)

abbrev pub with_edit : Program → ℕ → Result (Operation ℕ) OpFault → Answer
with_edit program client (Ok op) = pushed program (instr.Edit client op)
with_edit program client (Err op_fault.NotJson) = Err BadOperation
with_edit program client (Err op_fault.NotArray) = Err BadOperation
with_edit program client (Err (op_fault.BadComponent i)) = Err BadOperation
with_edit program client (Err op_fault.TooLong) = Err TooLong
with_edit program client (Err op_fault.Memory) = Err Memory

-- the number of a client, handed on
abbrev pub with_client : ℕ → List ℕ → (ℕ → Answer) → Answer
with_client clients rest then_do = with_number (number (first_word rest)) (λ client.
    if nat_lt client clients then then_do client else Err BadClient)

-- `edit C J`
abbrev pub edit_line : Program → List ℕ → Answer
edit_line program rest = with_client program.clients rest (λ client. with_edit program client (operation_of_rest (after_word rest)))

-- `take C` and its like
abbrev pub client_line : Program → List ℕ → (ℕ → Instr) → Answer
client_line program rest make = with_client program.clients rest (λ client. at_end (after_word rest) (pushed program (make client)))

-- `present P` stands only directly below `clients N`
abbrev pub present_at : Section → Program → List ℕ → Answer
present_at AfterClients program rest = present_line program rest
present_at AfterPresent program rest = Err UnknownWord
present_at InBody program rest = Err UnknownWord

-- `start S` stands only directly below these two
abbrev pub start_at : Section → Program → List ℕ → Answer
start_at AfterClients program rest = start_line program rest
start_at AfterPresent program rest = start_line program rest
start_at InBody program rest = Err UnknownWord

-- a line that counts, by its keyword, below the line `clients N`
abbrev pub keyword_line : BodyView → Keyword → List ℕ → Answer
keyword_line draft word.Clients rest = Err UnknownWord
keyword_line draft word.Present rest = present_at draft.section draft.program rest
keyword_line draft word.Start rest = start_at draft.section draft.program rest
keyword_line draft word.Edit rest = edit_line draft.program rest
keyword_line draft word.Take rest = client_line draft.program rest instr.Take
keyword_line draft word.Deliver rest = client_line draft.program rest instr.Deliver
keyword_line draft word.Acknowledge rest = client_line draft.program rest instr.Acknowledge
keyword_line draft word.Read rest = client_line draft.program rest instr.Read
keyword_line draft word.Join rest = client_line draft.program rest instr.Join
keyword_line draft word.ReadServer rest = at_end rest (pushed draft.program instr.ReadServer)
keyword_line draft word.Other rest = Err UnknownWord

-- the first line that counts
abbrev pub first_line : Keyword → List ℕ → Answer
first_line word.Clients rest = clients_line rest
first_line word.Present rest = Err NoClients
first_line word.Start rest = Err NoClients
first_line word.Edit rest = Err NoClients
first_line word.Take rest = Err NoClients
first_line word.Deliver rest = Err NoClients
first_line word.Acknowledge rest = Err NoClients
first_line word.Read rest = Err NoClients
first_line word.Join rest = Err NoClients
first_line word.ReadServer rest = Err NoClients
first_line word.Other rest = Err NoClients

abbrev pub counted_line : Option BodyView → List ℕ → Answer
counted_line None line = first_line (keyword_of (first_word line)) (after_word line)
counted_line (Some draft) line = keyword_line draft (keyword_of (first_word line)) (after_word line)

-- what a line makes of the draft; there is none before the first line that counts
abbrev pub now_drafted : Answer → Result (Option BodyView) Kind
now_drafted (Ok draft) = Ok (Some draft)
now_drafted (Err kind) = Err kind

-- what a line does
unfoldable pub line_step : Option BodyView → List ℕ → Result (Option BodyView) Kind
line_step draft line =
    if is_utf8 line then (if counts (trimmed line) then now_drafted (counted_line draft (trimmed line)) else Ok draft) else Err BadText

-- go on below a line, or keep its fault
abbrev pub go_on : ℕ → Result (Option BodyView) Kind → (Option BodyView → Result (Option BodyView) AsmFault) → Result (Option BodyView) AsmFault
go_on line (Ok draft) below = below draft
go_on line (Err kind) below = Err (record { line = line; kind = kind })

-- the lines from number `line` on, as far as the first faulty one
unfoldable pub run : ℕ → Option BodyView → List (List ℕ) → Result (Option BodyView) AsmFault
run line draft [] = Ok draft
run line draft (l ∷ ls) = go_on line (line_step draft l) (λ next. run (line + 1) next ls)

-- the schedule at the end of a text of so many lines
abbrev pub ended : ℕ → Result (Option BodyView) AsmFault → Result Program AsmFault
ended lines (Ok None) = Err (record { line = lines + 1; kind = NoClients })
ended lines (Ok (Some draft)) = Ok draft.program
ended lines (Err fault) = Err fault

-- the schedule that lines are, or the fault of the first faulty one
abbrev pub outcome_of_lines : List (List ℕ) → Result Program AsmFault
outcome_of_lines lines = ended (length lines) (run 1 None lines)

-- the schedule that a text is, or the fault of its first faulty line
abbrev pub outcome : List ℕ → Result Program AsmFault
outcome text = outcome_of_lines (lines_of text)

-- the lines before number `line` have no fault
abbrev pub IsFaultlessBefore : List (List ℕ) → ℕ → Type 0
IsFaultlessBefore lines line = (line ≤ length lines + 1) × IsOk (run 1 None (take (line - 1) lines))

-- a fault of the JSON text of such a line, or of the number of instructions, which is checked after it
abbrev pub IsBehindJson : Keyword → Kind → Type 0
IsBehindJson word.Start BadText = Unit {0}
IsBehindJson word.Start TooLong = Unit {0}
IsBehindJson word.Edit BadOperation = Unit {0}
IsBehindJson word.Edit TooLong = Unit {0}
IsBehindJson word.Edit TooMany = Unit {0}
IsBehindJson keyword kind = ⊥

-- running out of memory hides no fault but these, on a line of that keyword
abbrev pub HidesOnlyJson : {A : Type 0} → Keyword → Result A Kind → Type 0
HidesOnlyJson keyword (Ok x) = Unit {0}
HidesOnlyJson keyword (Err kind) = IsBehindJson keyword kind

-- memory ran out in line number `line`: no line before it has a fault, and it has none itself, except perhaps in its JSON text
pub record OutOfMemoryIn (lines : List (List ℕ)) (line : ℕ) : Type 0 where
  pub draft : Option BodyView
  pub before : run 1 None (take (line - 1) lines) ≡ Ok draft
  pub text : List ℕ
  pub below : List (List ℕ)
  pub here : drop (line - 1) lines ≡ text ∷ below
  pub hides : HidesOnlyJson (keyword_of (first_word (trimmed text))) (line_step draft text)
