-- What `run` writes and answers.
use Rattle.std.specs.Prelude.{◌≡◌, ◌⊎◌, ℕ, Bool, List, Option, Some, None}
use Rattle.ot_isa.specs.Program.{Program}
use Rattle.ot_model.specs.declared.shown.Refusal.{Refusal}
use Rattle.ot_machine.specs.declared.outcome.Run.{Run}
use Rattle.ot_machine.specs.Ended.{IsRun}
use Rattle.ot_report.specs.Printed.{IsReport}
use Rattle.ot_report.specs.Written.{WritesFirstReads}
use Rattle.streams.specs.Outcomes.{Streams, Gives, Says, memory_fault}

-- 0 where all instructions were performed, 1 where one was not
abbrev pub stop_status : Option (ℕ × Refusal) → ℕ
stop_status None = 0
stop_status (Some stop) = 1

-- the run of the schedule, as it is printed, in words or as JSON
pub record Reports (json : Bool) (schedule : Program) (status : ℕ) (streams : Streams) : Type 0 where
  pub run : Run
  pub is_run : IsRun schedule run
  pub text : List ℕ
  pub is_report : IsReport json schedule run text
  pub gives : Gives (stop_status run.stopped) text status streams

-- memory ran out: status 1, the lines of the first reads, which were written by then, and on the faults that it was
abbrev pub StopsAmongReads : Bool → Program → ℕ → Streams → Type 0
StopsAmongReads json schedule status streams =
    (status ≡ 1) × WritesFirstReads json schedule streams.output streams.output' × Says memory_fault streams

-- a run, or out of memory
abbrev pub MayReport : Bool → Program → ℕ → Streams → Type 0
MayReport json schedule status streams = Reports json schedule status streams ⊎ StopsAmongReads json schedule status streams
