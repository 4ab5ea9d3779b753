-- What a run of a schedule ends with.
use Rattle.std.specs.Prelude.{◌≡◌, ℕ, ◌<◌, List, Option, Some, None, length, slice_get}
use Rattle.ot_isa.specs.Program.{Program}
use Rattle.ot_isa.specs.declared.instruction.Instr.{Instr}
use Rattle.ot_model.specs.declared.shown.Refusal.{Refusal}
use Rattle.ot_model.specs.declared.shown.Refusal.TheVariants.{Memory}
use Rattle.ot_model.specs.declared.shown.Shown.{Shown}
use Rattle.ot_model.specs.Table.{State, step, Refused}
use Rattle.ot_machine.specs.declared.outcome.Ending.{Ending}
use Rattle.ot_machine.specs.declared.outcome.Run.{Run}
use Rattle.ot_model.specs.Runs.{done, place_at}

-- how many instructions were performed
abbrev pub reached : Program → Option (ℕ × Refusal) → ℕ
reached s None = length s.instrs
reached s (Some stop) = stop.0

-- the table refuses the instruction at this place for this reason
abbrev pub IsRefusedIn : Program → State → ℕ → Refusal → Type 0
IsRefusedIn s state place refusal = (i : Instr) × (slice_get s.instrs place ≡ Some i) × (step state i ≡ Refused refusal)

-- memory may run out before an instruction that the table performs; any other stop is the table's
abbrev pub IsStopAt : Program → State → ℕ → Refusal → Type 0
IsStopAt s state place Memory = place < done s
IsStopAt s state place refusal = (place ≡ done s) × IsRefusedIn s state place refusal

-- a run that does not stop has performed every instruction
abbrev pub IsStop : Program → State → Option (ℕ × Refusal) → Type 0
IsStop s state None = length s.instrs ≡ done s
IsStop s state (Some stop) = IsStopAt s state stop.0 stop.1

-- the run of the schedule, as far as it went
pub record IsRun (s : Program) (run : Run) : Type 0 where
  pub at : place_at s (reached s run.stopped) ≡ Some (record { state = run.machine; shown = run.shown.items })
  pub stop : IsStop s run.machine run.stopped

-- where the run of the schedule ended; what it showed is not said
pub record IsEnding (s : Program) (ending : Ending) : Type 0 where
  pub shown : List Shown
  pub at : place_at s (reached s ending.stopped) ≡ Some (record { state = ending.machine; shown = shown })
  pub stop : IsStop s ending.machine ending.stopped
