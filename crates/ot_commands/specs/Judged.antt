-- What `judge` writes and answers.
use Rattle.std.specs.Prelude.{◌≡◌, ◌≢◌, ◌⊎◌, ℕ, List, [], ◌∷◌, ◌++◌, Bool, Result, Ok, Err, codes, if◌then◌else◌}
use Rattle.std.specs.Str.{is_utf8}
use Rattle.ot_judge.specs.declared.verdict.Verdict.{Verdict}
use Rattle.ot_judge.specs.declared.verdict.Verdict.TheVariants.{Holds}
use Rattle.ot_judge.specs.declared.fault.TraceFault.{TraceFault}
use Rattle.ot_judge.specs.declared.fault.TraceFault.TheVariants as kind
use Rattle.ot_judge.specs.Reading.{trace_of_text}
use Rattle.ot_judge.specs.Verdict.{IsVerdict}
use Rattle.ot_model.specs.Trace.{TraceView}
use Rattle.ot_report.specs.Members.{verdict_text}
use Rattle.streams.specs.Outcomes.{Streams, Refuses, Gives, GivesUp, OutOfMemory}

-- 0 where the property holds
abbrev pub verdict_status : Verdict → ℕ
verdict_status Holds = 0
verdict_status _ = 1

-- the line of a fault of a trace
abbrev pub trace_fault : TraceFault → List ℕ
trace_fault kind.NotJson = codes "otbench: NotJson" ++ 10 ∷ []
trace_fault kind.BadShape = codes "otbench: BadShape" ++ 10 ∷ []
trace_fault kind.TraceFull = codes "otbench: TraceFull" ++ 10 ∷ []
trace_fault (kind.TagTwice tag) = codes "otbench: TagTwice" ++ 10 ∷ []
trace_fault kind.Memory = codes "otbench: Memory" ++ 10 ∷ []

-- the trace that bytes are, or why they are none; bytes that are no text are no JSON
abbrev pub trace_of_bytes : List ℕ → Result TraceView TraceFault
trace_of_bytes bytes = if is_utf8 bytes then trace_of_text bytes else Err kind.NotJson

-- an input that is no trace: nothing on the output, and the fault's line. A fault other than Memory is the input's
pub record RefusesTrace (bytes : List ℕ) (status : ℕ) (streams : Streams) : Type 0 where
  pub fault : TraceFault
  pub named : fault ≢ kind.Memory → trace_of_bytes bytes ≡ Err fault
  pub refuses : Refuses (trace_fault fault) status streams

-- the verdict of the trace, as it is printed, in words or as JSON
pub record GivesVerdict (json : Bool) (trace : TraceView) (status : ℕ) (streams : Streams) : Type 0 where
  pub verdict : Verdict
  pub is_verdict : IsVerdict trace verdict
  pub gives : Gives (verdict_status verdict) (verdict_text json verdict) status streams

-- the verdict, or out of memory
abbrev pub MayGiveVerdict : Bool → TraceView → ℕ → Streams → Type 0
MayGiveVerdict json trace status streams = GivesVerdict json trace status streams ⊎ OutOfMemory status streams

-- the bytes were not read whole (`unread`: the input has failed), or they are refused, or they are a trace, which is judged
abbrev pub Judges : Bool → Bool → List ℕ → ℕ → Streams → Type 0
Judges json unread bytes status streams =
    GivesUp unread status streams ⊎ RefusesTrace bytes status streams ⊎ ((trace : TraceView) × (trace_of_bytes bytes ≡ Ok trace) × MayGiveVerdict json trace status streams)
