-- What `check` writes and answers.
use Rattle.std.specs.Prelude.{◌⊎◌, ℕ, Bool, Option, Some, None}
use Rattle.ot_isa.specs.Program.{Program}
use Rattle.ot_judge.specs.declared.verdict.Verdict.{Verdict}
use Rattle.ot_model.specs.declared.shown.Refusal.{Refusal}
use Rattle.ot_machine.specs.declared.outcome.Ending.{Ending}
use Rattle.ot_machine.specs.Ended.{IsEnding}
use Rattle.ot_report.specs.Findings.{found_of, found_text, verdict_of}
use Rattle.streams.specs.Outcomes.{Streams, Gives, OutOfMemory}
use Rattle.ot_commands.specs.Ran.{stop_status}

-- 1 for an instruction that was not performed and for a trace that is too large, else 0
abbrev pub check_status : Option Verdict → Option (ℕ × Refusal) → ℕ
check_status None stopped = 1
check_status (Some verdict) stopped = stop_status stopped

-- what is found of the schedule's run, as it is printed, in words or as JSON: the first that is not settled, or all
pub record Finds (all json : Bool) (schedule : Program) (status : ℕ) (streams : Streams) : Type 0 where
  pub ending : Ending
  pub is_ending : IsEnding schedule ending
  pub gives : Gives (check_status (verdict_of schedule) ending.stopped) (found_text json (found_of all schedule ending)) status streams

-- what is found, or out of memory
abbrev pub MayFind : Bool → Bool → Program → ℕ → Streams → Type 0
MayFind all json schedule status streams = Finds all json schedule status streams ⊎ OutOfMemory status streams
