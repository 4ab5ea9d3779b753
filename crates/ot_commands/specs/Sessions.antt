-- An input of many sessions: of each a schedule's lines, a line `%%`, the lines that a port printed, and a line `%%`.
use Rattle.std.specs.Prelude.{◌≡◌, ◌⊎◌, ◌≤◌, ◌<◌, ◌+◌, ◌-◌, ◌^◌, ◌&&◌, min, ℕ, Bool, true, false, List, [], ◌∷◌, ◌++◌, length, Option, Some, None, Ok, codes, decimal}
use Rattle.streams.specs.Lines.{lines_of}
use Rattle.streams.specs.Outcomes.{Complains, MayRefuse, Puts, Streams}
use Rattle.ot_asm.specs.Canonical.{lines_text}
use Rattle.ot_asm.specs.Comments.{comments_among}
use Rattle.ot_asm.specs.Parts.{lines_before, lines_behind}
use Rattle.ot_asm.specs.Stepping.{outcome_of_lines}
use Rattle.ot_asm.specs.declared.fault.AsmFault.{AsmFault}
use Rattle.ot_asm.specs.declared.fault.Kind.TheVariants.{Memory, ReadFault}
use Rattle.ot_conform.specs.Compared.{IsVerdictOf, NamesKeys}
use Rattle.ot_conform.specs.Ports.{counted_lines}
use Rattle.ot_conform.specs.Unknown.{all_named}
use Rattle.ot_conform.specs.declared.reading.Compared.{Compared}
use Rattle.ot_commands.specs.Answered.{Session}
use Rattle.ot_commands.specs.Conformed.{lines_up_to_mark}
use Rattle.ot_commands.specs.Faults.{IsLineFault, LacksMemory, line_kind}
use Rattle.ot_commands.specs.Part.{has_mark}
use Rattle.ot_commands.specs.declared.sessions.ComparedSession.{ComparedSession}
use Rattle.ot_commands.specs.declared.sessions.SessionFault.{SessionFault}
use Rattle.ot_commands.specs.declared.sessions.SessionFault.TheVariants.{Line, NoMark}

-- ---- the first session of these lines

-- its schedule's lines, the port's, and those behind it
abbrev pub schedule_lines : List (List ℕ) → List (List ℕ)
schedule_lines lines = lines_before true lines

abbrev pub port_lines : List (List ℕ) → List (List ℕ)
port_lines lines = lines_before true (lines_behind true lines)

abbrev pub next_lines : List (List ℕ) → List (List ℕ)
next_lines lines = lines_behind true (lines_behind true lines)

-- both marks are there
abbrev pub is_session : List (List ℕ) → Bool
is_session lines = has_mark lines && has_mark (lines_behind true lines)

-- what comes of comparing a port's lines, behind so many, with the run of the schedule that these lines spell: as `conform` has it
pub record IsComparedOf (sparse : Bool) (text port : List (List ℕ)) (earlier : ℕ) (session : Session) (compared : Compared) : Type 0 where
  pub lines : session.lines ≡ text
  pub said : session.said ≡ comments_among text
  pub spells : outcome_of_lines text ≡ Ok session.schedule
  pub is : IsVerdictOf sparse session.schedule (counted_lines port) compared.verdict
  pub unknown : NamesKeys sparse session.schedule earlier port compared.verdict (all_named compared.unknown.items)

-- the same of the first session of these lines, which stands behind so many lines
pub record IsCompared (sparse : Bool) (first : ℕ) (lines : List (List ℕ)) (session : Session) (compared : Compared) : Type 0 where
  pub whole : is_session lines ≡ true
  pub is : IsComparedOf sparse (schedule_lines lines) (port_lines lines) (first + lines_up_to_mark lines) session compared

-- ---- its faults

-- a line's fault behind so many lines, its number at most the greatest u64
abbrev pub fault_behind : ℕ → AsmFault → AsmFault
fault_behind first f = record { line = min (first + f.line) (2 ^ 64 - 1); kind = f.kind }

-- memory ran out for a line, one of these or the next; or it could not be read, only where the input has failed (`unread`)
pub record Breaks (unread : Bool) (first : ℕ) (lines : List (List ℕ)) (f : AsmFault) : Type 0 where
  pub cause : (f.kind ≡ Memory) ⊎ ((f.kind ≡ ReadFault) × (unread ≡ true))
  pub least : first < f.line
  pub most : f.line ≤ 1 + first + length lines

-- the schedule that these lines should be is refused
abbrev pub RefusesSchedule : ℕ → List (List ℕ) → AsmFault → Type 0
RefusesSchedule first text f = (own : AsmFault) × IsLineFault false text own × (f ≡ fault_behind first own)

-- a mark is missing, the schedule is refused, or a line breaks
abbrev pub IsSessionFault : Bool → ℕ → List (List ℕ) → SessionFault → Type 0
IsSessionFault unread first lines (NoMark n) = (is_session lines ≡ false) × (n ≡ 1 + first + length lines)
IsSessionFault unread first lines (Line f) = RefusesSchedule first (schedule_lines lines) f ⊎ Breaks unread first lines f

-- otbench: session K: line L: Kind
abbrev pub fault_line : SessionFault → ℕ
fault_line (NoMark n) = n
fault_line (Line f) = f.line

abbrev pub fault_name : SessionFault → List ℕ
fault_name (NoMark n) = codes "NoMark"
fault_name (Line f) = line_kind f.kind

abbrev pub session_fault : ℕ → SessionFault → List ℕ
session_fault number fault =
    codes "otbench: session " ++ (decimal number ++ (codes ": line " ++ (decimal (fault_line fault) ++ (codes ": " ++ (fault_name fault ++ 10 ∷ [])))))

-- {"fault":"Kind","line":L,"session":K}
abbrev pub session_fault_json : ℕ → SessionFault → List ℕ
session_fault_json number fault =
    codes "{\"fault\":\"" ++ (fault_name fault ++ (codes "\",\"line\":" ++ (decimal (fault_line fault) ++ (codes ",\"session\":" ++ (decimal number ++ codes "}\n")))))

-- status 1; on the faults the line, and on the output the JSON, as far as writing went; or memory for it ran out
abbrev pub AnswersSession : ℕ → SessionFault → ℕ → Streams → Type 0
AnswersSession number fault status streams =
    (Puts 1 (session_fault_json number fault) status streams.output streams.output' streams.broken × Complains (session_fault number fault) streams.faults streams.faults' streams.faults_broken)
    ⊎ LacksMemory (session_fault number fault) status streams

-- in words: nothing on the output, and the fault's line; or as JSON too
abbrev pub TellsSession : Bool → ℕ → SessionFault → ℕ → Streams → Type 0
TellsSession false number fault status streams = MayRefuse (session_fault number fault) status streams
TellsSession true number fault status streams = AnswersSession number fault status streams

-- ---- for private clauses

-- what is left has these lines
abbrev pub Leaves : Option (List ℕ) → List (List ℕ) → Type 0
Leaves None lines = ⊥
Leaves (Some rest) lines = lines_of rest ≡ lines

-- the lines up to the first mark, behind so many, were taken, and it, and the text has them: now so many were taken; or there is no line
abbrev pub TakesMarked : ℕ → List (List ℕ) → Option (List ℕ) → List ℕ → Option ℕ → Type 0
TakesMarked earlier lines rest text None = lines ≡ []
TakesMarked earlier lines rest text (Some taken) =
    (has_mark lines ≡ true)
    × (text ≡ lines_text (lines_before true lines))
    × (lines_of text ≡ lines_before true lines)
    × Leaves rest (lines_behind true lines)
    × (taken + length (lines_behind true lines) ≡ earlier + length lines)

-- there is no mark, or a line breaks
abbrev pub IsTakeFault : Bool → ℕ → List (List ℕ) → SessionFault → Type 0
IsTakeFault unread earlier lines (NoMark n) = (has_mark lines ≡ false) × (n ≡ 1 + earlier + length lines)
IsTakeFault unread earlier lines (Line f) = Breaks unread earlier lines f

-- a session as it was read
abbrev pub session_read : ComparedSession → Session
session_read s = record { lines = lines_of s.text.items; said = s.comments; schedule = s.schedule }

-- the first session of these lines was compared; or there is no line
abbrev pub IsNext : Bool → ℕ → List (List ℕ) → Option (List ℕ) → Option (ComparedSession × ℕ) → Type 0
IsNext sparse first lines rest None = lines ≡ []
IsNext sparse first lines rest (Some p) =
    IsCompared sparse first lines (session_read p.0) p.0.compared
    × (p.0.text.items ≡ lines_text (schedule_lines lines))
    × Leaves rest (next_lines lines)
    × (p.1 + length (next_lines lines) ≡ first + length lines)

-- a comparison of these two parts fails
abbrev pub IsCompareFault : ℕ → List (List ℕ) → ℕ → List (List ℕ) → SessionFault → Type 0
IsCompareFault first text earlier port (NoMark n) = ⊥
IsCompareFault first text earlier port (Line f) =
    RefusesSchedule first text f ⊎ ((f.kind ≡ Memory) × (first < f.line) × (f.line ≤ 1 + earlier + length port))
