-- What `explain --plan` writes and answers.
use Rattle.std.specs.Prelude.{◌≡◌, ◌≢◌, ◌⊎◌, ◌++◌, ℕ, List, Bool, true, Ok, Err}
use Rattle.std.specs.Io.KnownBytes.{Keeps}
use Rattle.std.specs.Str.{is_utf8}
use Rattle.streams.specs.Outcomes.{Streams, Gives, GivesUp, OutOfMemory}
use Rattle.ot_plan.specs.Lines.{fault_line}
use Rattle.ot_plan.specs.Plan.{PlanView}
use Rattle.ot_plan.specs.Reading.{plan_of_bytes}
use Rattle.ot_plan.specs.declared.fault.PlanFault.{PlanFault}
use Rattle.ot_plan.specs.declared.fault.PlanFault.TheVariants as kind
use Rattle.ot_reasons.specs.Ignored.{Key, ignored_of_text, ignored_rows}
use Rattle.ot_reasons.specs.PlanWords.{IsReason, plan_text}
use Rattle.ot_commands.specs.ExplainedTraces.{Tells}

-- the words for bytes that are refused with this fault; of bytes that are no text nothing is said of them
abbrev pub IsReasonOfBytes : List ℕ → PlanFault → List ℕ → Type 0
IsReasonOfBytes bytes fault words = is_utf8 bytes ≡ true → IsReason bytes fault words

-- an input that is no plan: nothing on the output; on the faults the fault's line, and the words that say where it is. A fault other than Memory is
-- the input's
pub record TellsFault (bytes : List ℕ) (status : ℕ) (streams : Streams) : Type 0 where
  pub fault : PlanFault
  pub words : List ℕ
  pub named : fault ≢ kind.Memory → plan_of_bytes bytes ≡ Err fault
  pub reason : fault ≢ kind.Memory → IsReasonOfBytes bytes fault words
  pub status_is : status ≡ 1
  pub output : Keeps streams.output streams.output'
  pub tells : Tells (fault_line fault) words streams.faults streams.faults' streams.faults_broken

-- the line that says what the plan is, and a row for each key that is not read; or out of memory
abbrev pub MayGivePlan : PlanView → List Key → ℕ → Streams → Type 0
MayGivePlan plan ignored status streams = Gives 0 (plan_text plan ++ ignored_rows ignored) status streams ⊎ OutOfMemory status streams

-- the bytes were not read whole (`unread`: the input has failed), or they are refused, or they are a plan, which is told
abbrev pub ExplainsPlan : Bool → List ℕ → ℕ → Streams → Type 0
ExplainsPlan unread bytes status streams =
    GivesUp unread status streams ⊎ TellsFault bytes status streams ⊎ ((plan : PlanView) × (plan_of_bytes bytes ≡ Ok plan) × MayGivePlan plan (ignored_of_text bytes) status streams)
