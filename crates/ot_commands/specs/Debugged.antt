-- What `debug` writes and answers.
use Rattle.std.specs.Prelude.{◌≡◌, ◌⊎◌, ◌+◌, ◌-◌, ◌++◌, ℕ, Bool, true, List, Option, Ok, length, if◌then◌else◌}
use Rattle.std.specs.Io.KnownBytes.{Keeps}
use Rattle.streams.specs.Lines.{lines_of}
use Rattle.ot_isa.specs.Program.{Program}
use Rattle.ot_asm.specs.declared.fault.Kind.TheVariants as line
use Rattle.ot_asm.specs.Parts.{lines_before, lines_behind}
use Rattle.ot_asm.specs.Stepping.{outcome_of_lines}
use Rattle.ot_debug.specs.Session.{Session, started}
use Rattle.ot_console.specs.declared.looping.LoopStop.{LoopStop}
use Rattle.ot_console.specs.declared.looping.LoopStop.TheVariants as stop
use Rattle.ot_console.specs.Looping.{Loops, IsCaused, IsWritten, IsNumber}
use Rattle.streams.specs.Outcomes.{Streams, Complains, Gives, OutOfMemory}
use Rattle.ot_commands.specs.Faults.{RefusesLines, line_fault}

-- 1 where a reply was `bad command`, a refused instruction or `no memory`, else 0
abbrev pub loop_status : Bool → ℕ
loop_status faulted = if faulted then 1 else 0

-- from the schedule's opening on, each line is answered
pub record Converses (schedule : Program) (lines : List (List ℕ)) (status : ℕ) (streams : Streams) : Type 0 where
  pub after : Session
  pub text : List ℕ
  pub faulted : Bool
  pub loops : Loops (started schedule) lines after text faulted
  pub gives : Gives (loop_status faulted) text status streams

-- the fault's line of a command loop that breaks off; none where writing failed
abbrev pub TellsStop : LoopStop → Option (List ℕ) → Option (List ℕ) → Bool → Type 0
TellsStop (stop.ReadFault number) old new failed = Complains (line_fault (record { line = number; kind = line.ReadFault })) old new failed
TellsStop (stop.Memory number) old new failed = Complains (line_fault (record { line = number; kind = line.Memory })) old new failed
TellsStop stop.WriteFault old new failed = Keeps old new

-- a command loop that breaks off: the first lines are answered, and the next one could not be read, only where the input has failed (`unread`) or
-- memory ran out; or, only where a write failed, a reply is not written whole. The fault's line counts the lines before the commands too
pub record BreaksOff (unread : Bool) (schedule : Program) (lines : List (List ℕ)) (earlier : ℕ) (status : ℕ) (streams : Streams) : Type 0 where
  pub stop : LoopStop
  pub answered : List (List ℕ)
  pub left : List (List ℕ)
  pub front : lines ≡ answered ++ left
  pub after : Session
  pub text : List ℕ
  pub faulted : Bool
  pub loops : Loops (started schedule) answered after text faulted
  pub written : IsWritten stop streams.output streams.output' text
  pub cause : IsCaused stop unread streams.broken
  pub number : IsNumber stop (earlier + length answered)
  pub tells : TellsStop stop streams.faults streams.faults' streams.faults_broken
  pub status_is : status ≡ 1

-- a command loop about the schedule, a first part of one, or out of memory
abbrev pub MayConverse : Bool → Program → List (List ℕ) → ℕ → ℕ → Streams → Type 0
MayConverse unread schedule lines earlier status streams =
    Converses schedule lines status streams ⊎ BreaksOff unread schedule lines earlier status streams ⊎ OutOfMemory status streams

-- how many lines stand before those behind the mark: the schedule's, and the mark
abbrev pub lines_up_to_mark : List (List ℕ) → ℕ
lines_up_to_mark lines = length lines - length (lines_behind true lines)

-- the lines before the mark are a schedule, and those behind it are answered
abbrev pub Debugs : Bool → List ℕ → ℕ → Streams → Type 0
Debugs unread text status streams =
    RefusesLines unread (lines_before true (lines_of text)) status streams
    ⊎ ((schedule : Program) × (outcome_of_lines (lines_before true (lines_of text)) ≡ Ok schedule)
    × MayConverse unread schedule (lines_behind true (lines_of text)) (lines_up_to_mark (lines_of text)) status streams)
