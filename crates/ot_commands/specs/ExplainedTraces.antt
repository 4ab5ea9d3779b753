-- What `explain --trace` writes and answers.
use Rattle.std.specs.Prelude.{◌≡◌, ◌≢◌, ◌⊎◌, ◌++◌, ℕ, List, Bool, true, Option, Ok, Err}
use Rattle.std.specs.Io.KnownBytes.{Keeps}
use Rattle.std.specs.Str.{is_utf8}
use Rattle.streams.specs.Streams.{Writes}
use Rattle.streams.specs.Outcomes.{Streams, Gives, GivesUp, OutOfMemory}
use Rattle.ot_judge.specs.declared.fault.TraceFault.{TraceFault}
use Rattle.ot_judge.specs.declared.fault.TraceFault.TheVariants as kind
use Rattle.ot_judge.specs.declared.verdict.Verdict.{Verdict}
use Rattle.ot_judge.specs.Verdict.{IsVerdict}
use Rattle.ot_model.specs.Trace.{TraceView}
use Rattle.ot_reasons.specs.Words.{IsReason}
use Rattle.ot_report.specs.Verdicts.{verdict_line}
use Rattle.ot_report.specs.Words.{verdict_words}
use Rattle.ot_commands.specs.Judged.{trace_fault, trace_of_bytes, verdict_status}

-- the words for bytes that are refused with this fault; of bytes that are no text nothing is said of them
abbrev pub IsReasonOfBytes : List ℕ → TraceFault → List ℕ → Type 0
IsReasonOfBytes bytes fault words = is_utf8 bytes ≡ true → IsReason bytes fault words

-- the fault's line, and behind it the words
pub record Tells (line words : List ℕ) (old new : Option (List ℕ)) (failed : Bool) : Type 0 where
  pub told : Option (List ℕ)
  pub first : Writes old told failed line
  pub behind : Writes told new failed words

-- an input that is no trace: nothing on the output; on the faults the fault's line, and the words that say where it is. A fault other than Memory is
-- the input's
pub record TellsFault (bytes : List ℕ) (status : ℕ) (streams : Streams) : Type 0 where
  pub fault : TraceFault
  pub words : List ℕ
  pub named : fault ≢ kind.Memory → trace_of_bytes bytes ≡ Err fault
  pub reason : fault ≢ kind.Memory → IsReasonOfBytes bytes fault words
  pub status_is : status ≡ 1
  pub output : Keeps streams.output streams.output'
  pub tells : Tells (trace_fault fault) words streams.faults streams.faults' streams.faults_broken

-- the verdict of the trace, as `judge` prints it, and below it its words
pub record TellsVerdict (trace : TraceView) (status : ℕ) (streams : Streams) : Type 0 where
  pub verdict : Verdict
  pub is_verdict : IsVerdict trace verdict
  pub gives : Gives (verdict_status verdict) (verdict_line verdict ++ verdict_words trace verdict) status streams

-- the verdict with its words, or out of memory
abbrev pub MayTellVerdict : TraceView → ℕ → Streams → Type 0
MayTellVerdict trace status streams = TellsVerdict trace status streams ⊎ OutOfMemory status streams

-- the bytes were not read whole (`unread`: the input has failed), or they are refused, or they are a trace, which is judged
abbrev pub ExplainsTrace : Bool → List ℕ → ℕ → Streams → Type 0
ExplainsTrace unread bytes status streams =
    GivesUp unread status streams ⊎ TellsFault bytes status streams ⊎ ((trace : TraceView) × (trace_of_bytes bytes ≡ Ok trace) × MayTellVerdict trace status streams)
