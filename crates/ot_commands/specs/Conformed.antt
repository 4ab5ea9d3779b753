-- What `conform` writes and answers.
use Rattle.std.specs.Prelude.{◌≡◌, ◌⊎◌, ◌-◌, ℕ, Bool, true, List, Option, Ok, is_some, length, if◌then◌else◌}
use Rattle.std.specs.Io.KnownBytes.{Keeps}
use Rattle.streams.specs.Lines.{lines_of}
use Rattle.ot_isa.specs.Program.{Program}
use Rattle.ot_asm.specs.declared.fault.AsmFault.{AsmFault}
use Rattle.ot_asm.specs.declared.fault.Kind.TheVariants as kind
use Rattle.ot_asm.specs.Parts.{lines_before, lines_behind}
use Rattle.ot_asm.specs.Stepping.{outcome_of_lines}
use Rattle.ot_asm.specs.Comments.{Said}
use Rattle.ot_commands.specs.Answered.{IsTold, Session, session_of}
use Rattle.ot_commands.specs.Faults.{RefusesLinesAs, line_fault}
use Rattle.streams.specs.Outcomes.{Streams, Complains, Gives, OutOfMemory}
use Rattle.ot_conform.specs.Compared.{IsCaused, IsVerdictOf, NamesKeys, StopsBehind, verdict_status}
use Rattle.ot_conform.specs.Ports.{counted_lines}
use Rattle.ot_conform.specs.Unknown.{all_named}
use Rattle.ot_conform.specs.declared.comparison.Verdict.{Verdict}
use Rattle.ot_conform.specs.declared.reading.Compared.{Compared}
use Rattle.ot_conform.specs.declared.reading.CompareStop.{CompareStop}
use Rattle.ot_conform.specs.declared.reading.CompareStop.TheVariants.{ReadFault, Memory}

-- the status of a verdict; 1 where the schedule is cut
abbrev pub answer_status : Said → Verdict → ℕ
answer_status said verdict = if is_some said.cut then 1 else verdict_status verdict

-- the answer is written, in words or as JSON, with the status
pub record Answers (json : Bool) (session : Session) (compared : Compared) (status : ℕ) (streams : Streams) : Type 0 where
  pub bytes : List ℕ
  pub is : IsTold json session compared bytes
  pub gives : Gives (answer_status session.said compared.verdict) bytes status streams

-- or memory for them ran out
abbrev pub MayWrite : Bool → Session → Compared → ℕ → Streams → Type 0
MayWrite json session compared status streams = Answers json session compared status streams ⊎ OutOfMemory status streams

-- the verdict on the port's lines, behind so many, is written with their unknown keys; `sparse` allows lines for some instructions alone
pub record Judges (sparse json : Bool) (session : Session) (lines : List (List ℕ)) (earlier : ℕ) (status : ℕ) (streams : Streams) : Type 0 where
  pub compared : Compared
  pub is : IsVerdictOf sparse session.schedule (counted_lines lines) compared.verdict
  pub unknown : NamesKeys sparse session.schedule earlier lines compared.verdict (all_named compared.unknown.items)
  pub answers : Answers json session compared status streams

-- the fault of a comparison that broke off
abbrev pub stop_fault : CompareStop → AsmFault
stop_fault (ReadFault number) = record { line = number; kind = kind.ReadFault }
stop_fault (Memory number) = record { line = number; kind = kind.Memory }

-- a comparison that breaks off: the first lines agree, and the next one could not be read, only where the input has failed (`unread`), or memory
-- ran out for it. Nothing is on the output, and the fault's line counts the lines before the port's too
pub record BreaksOff (sparse unread : Bool) (schedule : Program) (lines : List (List ℕ)) (earlier : ℕ) (status : ℕ) (streams : Streams) : Type 0 where
  pub stop : CompareStop
  pub behind : StopsBehind sparse schedule stop earlier lines
  pub silent : Keeps streams.output streams.output'
  pub cause : IsCaused stop unread
  pub tells : Complains (line_fault (stop_fault stop)) streams.faults streams.faults' streams.faults_broken
  pub status_is : status ≡ 1

-- the verdict, a comparison that breaks off, or out of memory for the verdict's text
abbrev pub MayJudge : Bool → Bool → Bool → Session → List (List ℕ) → ℕ → ℕ → Streams → Type 0
MayJudge sparse json unread session lines earlier status streams =
    Judges sparse json session lines earlier status streams ⊎ BreaksOff sparse unread session.schedule lines earlier status streams ⊎ OutOfMemory status streams

-- how many lines stand before those behind the mark: the schedule's, and the mark
abbrev pub lines_up_to_mark : List (List ℕ) → ℕ
lines_up_to_mark lines = length lines - length (lines_behind true lines)

-- the lines before the mark are a schedule, and those behind it are compared with its run; the schedule's comments name the clients
abbrev pub Compares : Bool → Bool → Bool → List ℕ → ℕ → Streams → Type 0
Compares sparse json unread text status streams =
    RefusesLinesAs json unread (lines_before true (lines_of text)) status streams
    ⊎ ((schedule : Program) × (outcome_of_lines (lines_before true (lines_of text)) ≡ Ok schedule)
    × MayJudge sparse json unread (session_of (lines_before true (lines_of text)) schedule) (lines_behind true (lines_of text)) (lines_up_to_mark (lines_of text)) status streams)
