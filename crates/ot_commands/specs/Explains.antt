-- What `explain` writes and answers.
use Rattle.std.specs.Prelude.{◌≡◌, ◌⊎◌, ℕ, List, Bool, true, false, Option, Ok, if◌then◌else◌}
use Rattle.std.specs.Io.KnownBytes.{Keeps}
use Rattle.streams.specs.Streams.{Writes}
use Rattle.streams.specs.Lines.{lines_of}
use Rattle.streams.specs.Outcomes.{Complains, GivesUp, Says, Streams, memory_fault}
use Rattle.ot_asm.specs.Stepping.{outcome}
use Rattle.ot_asm.specs.declared.fault.AsmFault.{AsmFault}
use Rattle.ot_commands.specs.Faults.{IsLineFault, line_fault}
use Rattle.ot_faults.specs.Faults.{is_of_text, text_fault}
use Rattle.ot_faults.specs.Words.{fault_words}
use Rattle.ot_isa.specs.Program.{Program}
use Rattle.ot_asm.specs.Comments.{Said, comments_of}
use Rattle.ot_explain.specs.Explained.{WritesFirst, WritesPartOfRun, WritesRun}
use Rattle.ot_explain.specs.Placed.{places}

-- 1 where an instruction was not performed, else 0
abbrev pub explain_status : Bool → ℕ
explain_status refused = if refused then 1 else 0

-- the whole run in words, and nothing on the faults; `lines` are the lines of the instructions, and `said` is what the comments tell
pub record WritesWords (lines : List ℕ) (said : Said) (schedule : Program) (status : ℕ) (streams : Streams) : Type 0 where
  pub refused : Bool
  pub status_is : status ≡ explain_status refused
  pub run : WritesRun lines said schedule refused streams.output streams.output'
  pub quiet : Keeps streams.faults streams.faults'

-- only where a write failed: a first part of the run, and nothing on the faults
abbrev pub BreaksOff : List ℕ → Said → Program → ℕ → Streams → Type 0
BreaksOff lines said schedule status streams =
    (status ≡ 1) × (streams.broken ≡ true) × WritesPartOfRun lines said schedule streams.output streams.output' × Keeps streams.faults streams.faults'

-- memory ran out: whole paragraphs, and on the faults that it was
abbrev pub OutOfMemory : List ℕ → Said → Program → ℕ → Streams → Type 0
OutOfMemory lines said schedule status streams =
    (status ≡ 1) × WritesFirst lines said schedule streams.output streams.output' × Says memory_fault streams

abbrev pub MayExplain : List ℕ → Said → Program → ℕ → Streams → Type 0
MayExplain lines said schedule status streams =
    WritesWords lines said schedule status streams ⊎ BreaksOff lines said schedule status streams ⊎ OutOfMemory lines said schedule status streams

-- of a fault of these lines where it stands, what stands there, what is wanted and the note; of another one nothing. Either as far as memory lasts
abbrev pub AddsWords : Bool → List (List ℕ) → AsmFault → Option (List ℕ) → Option (List ℕ) → Bool → Type 0
AddsWords false lines fault told new failed = (new ≡ told) ⊎ Writes told new failed memory_fault
AddsWords true lines fault told new failed = Complains (fault_words (text_fault lines fault)) told new failed ⊎ Writes told new failed memory_fault

-- the fault's line, and behind it these words
pub record Tells (lines : List (List ℕ)) (fault : AsmFault) (old new : Option (List ℕ)) (failed : Bool) : Type 0 where
  pub told : Option (List ℕ)
  pub line : Complains (line_fault fault) old told failed
  pub behind : AddsWords (is_of_text fault.kind) lines fault told new failed

-- a text that is refused, which was read: nothing on the output; on the faults the fault's line, and where it stands
pub record Refuses (text : List ℕ) (status : ℕ) (streams : Streams) : Type 0 where
  pub fault : AsmFault
  pub is_fault : IsLineFault false (lines_of text) fault
  pub status_is : status ≡ 1
  pub output : Keeps streams.output streams.output'
  pub tells : Tells (lines_of text) fault streams.faults streams.faults' streams.faults_broken

-- the text is refused, or it spells a schedule, which is explained
abbrev pub ExplainsText : List ℕ → ℕ → Streams → Type 0
ExplainsText text status streams =
    Refuses text status streams ⊎ ((schedule : Program) × (outcome text ≡ Ok schedule) × MayExplain (places text) (comments_of text) schedule status streams)

-- the input was not read whole (`unread`: it has failed), or it is a text, which is explained
abbrev pub Explains : Bool → List ℕ → ℕ → Streams → Type 0
Explains unread text status streams = GivesUp unread status streams ⊎ ExplainsText text status streams
