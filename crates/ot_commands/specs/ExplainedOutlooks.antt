-- What `explain --json` writes and answers.
use Rattle.std.specs.Prelude.{◌⊎◌, ℕ}
use Rattle.ot_isa.specs.Program.{Program}
use Rattle.ot_machine.specs.declared.outcome.Ending.{Ending}
use Rattle.ot_machine.specs.Ended.{IsEnding}
use Rattle.ot_explain.specs.OutlookJson.{outlook_json}
use Rattle.streams.specs.Outcomes.{Streams, Gives, OutOfMemory}
use Rattle.ot_commands.specs.Ran.{stop_status}

-- where the schedule's run ends and the verdict on that, as JSON
pub record GivesOutlook (schedule : Program) (status : ℕ) (streams : Streams) : Type 0 where
  pub ending : Ending
  pub is_ending : IsEnding schedule ending
  pub gives : Gives (stop_status ending.stopped) (outlook_json schedule ending) status streams

-- or out of memory
abbrev pub MayGiveOutlook : Program → ℕ → Streams → Type 0
MayGiveOutlook schedule status streams = GivesOutlook schedule status streams ⊎ OutOfMemory status streams
