-- What `steps` writes and answers.
use Rattle.std.specs.Prelude.{◌≡◌, ◌⊎◌, ℕ, List, Bool, true, if◌then◌else◌}
use Rattle.std.specs.Io.KnownBytes.{Keeps}
use Rattle.streams.specs.Outcomes.{Streams, Says, memory_fault}
use Rattle.ot_commands.specs.Inputs.{OfText}
use Rattle.ot_isa.specs.Program.{Program}
use Rattle.ot_steps.specs.Written.{WritesFirstLines, WritesPartOfRun, WritesRun}

-- 1 where an instruction was not performed, else 0
abbrev pub steps_status : Bool → ℕ
steps_status refused = if refused then 1 else 0

-- all lines of the schedule's run, and nothing on the faults
pub record WritesSteps (documents : Bool) (schedule : Program) (status : ℕ) (streams : Streams) : Type 0 where
  pub refused : Bool
  pub status_is : status ≡ steps_status refused
  pub lines : WritesRun documents schedule refused streams.output streams.output'
  pub quiet : Keeps streams.faults streams.faults'

-- only where a write failed: a first part of the lines, and nothing on the faults
abbrev pub BreaksOff : Bool → Program → ℕ → Streams → Type 0
BreaksOff documents schedule status streams =
    (status ≡ 1) × (streams.broken ≡ true) × WritesPartOfRun documents schedule streams.output streams.output' × Keeps streams.faults streams.faults'

-- memory ran out: the first lines, and on the faults that it was
abbrev pub OutOfMemory : Bool → Program → ℕ → Streams → Type 0
OutOfMemory documents schedule status streams =
    (status ≡ 1) × WritesFirstLines documents schedule streams.output streams.output' × Says memory_fault streams

abbrev pub MayStep : Bool → Program → ℕ → Streams → Type 0
MayStep documents schedule status streams =
    WritesSteps documents schedule status streams ⊎ BreaksOff documents schedule status streams ⊎ OutOfMemory documents schedule status streams

-- the text is refused, or it spells a schedule, of which the lines are written
abbrev pub Steps : Bool → Bool → List ℕ → ℕ → Streams → Type 0
Steps documents unread text status streams = OfText (MayStep documents) unread text status streams
