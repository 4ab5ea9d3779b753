-- What holds of every run of every schedule, at every moment.
use Rattle.std.specs.Prelude.{◌≡◌, ℕ, Some}
use Rattle.ot_isa.specs.Program.{Program, IsProgram}
use Rattle.ot_model.specs.Table.{Place, IsQuiet}
use Rattle.ot_model.specs.Sound.{IsSound}
use Rattle.ot_model.specs.Runs.{place_at}
use Rattle.ot_machine.specs.Readers.{AreOne}

-- after any number of performed instructions the state is sound
abbrev pub RunsSound : Type 0
RunsSound = (s : Program) (p : ℕ) (q : Place) → IsProgram s → place_at s p ≡ Some q → IsSound q.state

-- wherever it is quiet, every joined client's list is the server's
abbrev pub RunsConverge : Type 0
RunsConverge = (s : Program) (p : ℕ) (q : Place) → IsProgram s → place_at s p ≡ Some q → IsQuiet q.state → AreOne q.state
