-- A comparison under way.
use Rattle.std.specs.Prelude.{◌≡◌, ◌⊎◌, ◌≤◌, ℕ, Bool, true, false, List, [], ◌∷◌, drop, Some, None}
use Rattle.ot_isa.specs.Program.{Program}
use Rattle.ot_isa.specs.declared.instruction.Instr.{Instr}
use Rattle.ot_model.specs.declared.shown.Refusal.{Refusal}
use Rattle.ot_model.specs.declared.shown.Refusal.TheVariants.{Memory}
use Rattle.ot_model.specs.declared.shown.Shown.{Shown}
use Rattle.ot_model.specs.Runs.{opening_of, place_at}
use Rattle.ot_steps.specs.Steps.{is_quiet}
use Rattle.ot_conform.specs.Answers.{IsDifferenceOf}
use Rattle.ot_conform.specs.Counted.{no_counts, with_port_line}
use Rattle.ot_conform.specs.Differences.{Outcome, ahead_from, ending, field_of, from_opening, over}
use Rattle.ot_conform.specs.Differences as differences
use Rattle.ot_conform.specs.Due.{DueLine, end_due, opening_due, stop_due}
use Rattle.ot_conform.specs.Passed.{passes, passes_step}
use Rattle.ot_conform.specs.Ports.{PortLine, Nothing, front}
use Rattle.ot_conform.specs.declared.comparison.Comparison.{Comparison}
use Rattle.ot_conform.specs.declared.comparison.Stage.{Stage}
use Rattle.ot_conform.specs.declared.comparison.Stage.TheVariants.{Opening, Running, Ending, Over}
use Rattle.ot_conform.specs.declared.comparison.Verdict.{Verdict}
use Rattle.ot_conform.specs.declared.comparison.Verdict.TheVariants.{Conforms, Differs, Stopped}

abbrev pub IsAtOpening : Stage → ℕ → Type 0
IsAtOpening Opening place = place ≡ 0
IsAtOpening Running place = Unit {0}
IsAtOpening Ending place = Unit {0}
IsAtOpening Over place = Unit {0}

-- the machine is where the schedule's run is at the place
pub record IsStanding (s : Program) (c : Comparison) : Type 0 where
  pub shown : List Shown
  pub at : place_at s c.place ≡ Some (record { state = c.machine; shown = shown })
  pub opening : IsAtOpening c.stage c.place

-- nothing is compared yet
abbrev pub begun : Bool → Program → Comparison
begun sparse s = record { machine = opening_of s; place = 0; stage = Opening; sparse = sparse; counts = no_counts }

-- what comes of the lines that are left
abbrev pub rest_at : Program → Comparison → Stage → List PortLine → Outcome
rest_at s c Opening lines = from_opening c.sparse (opening_due s) (ahead_from c.place c.machine (drop c.place s.instrs)) lines
rest_at s c Running lines = over c.sparse c.place (ahead_from c.place c.machine (drop c.place s.instrs)) lines
rest_at s c Ending lines = over c.sparse c.place (ending c.place c.machine) lines
rest_at s c Over lines = over c.sparse c.place [] lines

abbrev pub rest : Program → Comparison → List PortLine → Outcome
rest s c lines = rest_at s c c.stage lines

-- the line agrees with the one that is due, and then that of the next stage is
pub record AgreesAt (due : DueLine) (stage : Stage) (c : Comparison) (line : PortLine) (c' : Comparison) : Type 0 where
  pub agrees : field_of due line ≡ None
  pub is : c' ≡ record c { stage = stage; counts = with_port_line c.counts line }

-- the line agrees, and the comparison goes on
pub record Goes (s : Program) (c : Comparison) (line : PortLine) (c' : Comparison) : Type 0 where
  pub standing : IsStanding s c'
  pub rest_is : (lines : List PortLine) → rest s c (line ∷ lines) ≡ rest s c' lines
  pub counts_are : c'.counts ≡ with_port_line c.counts line
  pub sparse_is : c'.sparse ≡ c.sparse

-- the line of an instruction that is refused agrees; or the port's line passes over it, and is the end's
abbrev pub EndsAt : Comparison → Instr → Refusal → PortLine → Comparison → Type 0
EndsAt c i refusal line c' =
    ((passes c.sparse (stop_due c.place i refusal) line ≡ false) × AgreesAt (stop_due c.place i refusal) Ending c line c')
    ⊎ ((passes c.sparse (stop_due c.place i refusal) line ≡ true) × AgreesAt (end_due c.place (is_quiet c.machine)) Over c line c')

-- the place where a comparison stands, or one up to which a line passes over the instructions
abbrev pub IsPassed : Comparison → PortLine → ℕ → Type 0
IsPassed c line place = (place ≡ c.place) ⊎ ((c.sparse ≡ true) × (c.place ≤ place) × (passes_step place line ≡ true))

-- the instructions between are passed over by the line, which is compared with what is due behind them
pub record Passes (s : Program) (c : Comparison) (line : PortLine) (c' : Comparison) : Type 0 where
  pub standing : IsStanding s c'
  pub rest_is : (lines : List PortLine) → rest s c (line ∷ lines) ≡ rest s c' (line ∷ lines)
  pub front_is : (lines : List PortLine) → rest s c (front line lines) ≡ rest s c' (front line lines)
  pub place_is : IsPassed c line c'.place
  pub counts_are : c'.counts ≡ c.counts
  pub sparse_is : c'.sparse ≡ c.sparse

-- the verdict is what comes of it, and there is no difference only where no line is left; or there was no memory for the instruction
-- at the place where the comparison stands, or up to which the line passes over the instructions
abbrev pub IsVerdict : Comparison → PortLine → Outcome → Verdict → Type 0
IsVerdict c line o (Conforms counts) = (o ≡ differences.Conforms) × (counts ≡ c.counts) × (line ≡ Nothing)
IsVerdict c line o (Differs difference) = IsDifferenceOf o difference
IsVerdict c line o (Stopped place refusal) = (o ≡ differences.Stopped place refusal) ⊎ (IsPassed c line place × (refusal ≡ Memory))
