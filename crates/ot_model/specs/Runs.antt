-- The run of a schedule: how far it goes, and where it is after each of its instructions.
use Rattle.std.specs.Prelude.{◌≡◌, ℕ, ◌≤◌, List, length, Option, Some, take}
use Rattle.ot_isa.specs.Program.{Program}
use Rattle.ot_model.specs.declared.shown.Shown.{Shown}
use Rattle.ot_model.specs.Table.{State, Place, opening, begin, run, performed}
use Rattle.ot_model.specs.Sound.{AreInstrs}
use Rattle.ot_isa.specs.declared.builder.TheConstants.{CLIENT_LIMIT, START_LIMIT}

-- what a run asks of a schedule; each value of the type of schedules has it
pub record IsRunnable (s : Program) : Type 0 where
  pub clients : s.clients ≤ CLIENT_LIMIT
  pub present : s.present ≤ s.clients
  pub start : length s.start ≤ START_LIMIT
  pub instrs : AreInstrs s.instrs

-- the state in which the schedule begins
abbrev pub opening_of : Program → State
opening_of s = opening s.clients s.present s.start

-- how many instructions are performed: those before the first that the table refuses, or all
abbrev pub done : Program → ℕ
done s = performed s.instrs (opening_of s)

-- the state and the lists shown after the first p instructions, where each of these is performed
abbrev pub place_at : Program → ℕ → Option Place
place_at s p = run (take p s.instrs) (begin s.clients s.present s.start)

-- the state is the run's after the first p instructions, whatever lists they showed
pub record IsStateAt (s : Program) (p : ℕ) (state : State) : Type 0 where
  pub shown : List Shown
  pub at : place_at s p ≡ Some (record { state = state; shown = shown })
