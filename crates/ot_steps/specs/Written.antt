-- What is written of a run.
use Rattle.std.specs.Prelude.{◌≡◌, ◌⊎◌, ℕ, ◌≤◌, List, Bool, Option, Some, is_some, take}
use Rattle.std.specs.Io.KnownBytes.{Appends, Keeps}
use Rattle.streams.specs.Streams.{WritesPart}
use Rattle.ot_isa.specs.Program.{Program}
use Rattle.ot_model.specs.declared.shown.Refusal.{Refusal}
use Rattle.ot_model.specs.declared.shown.Shown.{Shown}
use Rattle.ot_isa.specs.declared.instruction.Instr.{Instr}
use Rattle.ot_model.specs.Table.{Place, State, Performed, step}
use Rattle.ot_model.specs.Runs.{done, opening_of, place_at}
use Rattle.ot_machine.specs.Ended.{reached, IsStop}
use Rattle.ot_steps.specs.Lines.{Line}
use Rattle.ot_steps.specs.Steps.{first_lines, lines_from, run_lines, step_line}
use Rattle.ot_steps.specs.Text.{line_text, lines_text}
use Rattle.streams.specs.declared.OutputFault.{OutputFault}
use Rattle.streams.specs.declared.OutputFault.TheVariants.{Memory, WriteFault}

-- the lines are those of the schedule's run, which ends in this way
pub record AreRunLines (documents : Bool) (s : Program) (stopped : Option (ℕ × Refusal)) (lines : List Line) : Type 0 where
  pub place : Place
  pub at : place_at s (reached s stopped) ≡ Some place
  pub stop : IsStop s place.state stopped
  pub are : lines ≡ run_lines documents s place.state stopped

-- all lines of the run are written; `refused` says whether an instruction was not performed
pub record WritesRun (documents : Bool) (s : Program) (refused : Bool) (old new : Option (List ℕ)) : Type 0 where
  pub stopped : Option (ℕ × Refusal)
  pub lines : List Line
  pub are : AreRunLines documents s stopped lines
  pub refused_is : refused ≡ is_some stopped
  pub written : Appends old new (lines_text lines)

-- nothing is written, or the opening and the lines of the first instructions
abbrev pub WritesFirstLines : Bool → Program → Option (List ℕ) → Option (List ℕ) → Type 0
WritesFirstLines documents s old new =
    Keeps old new ⊎ ((p : ℕ) × (p ≤ done s) × Appends old new (lines_text (first_lines documents s p)))

-- the lines are the first ones of the run, or all of them
abbrev pub AreFirstLines : Bool → Program → List Line → Type 0
AreFirstLines documents s lines =
    ((p : ℕ) × (p ≤ done s) × (lines ≡ first_lines documents s p))
    ⊎ ((stopped : Option (ℕ × Refusal)) × AreRunLines documents s stopped lines)

-- a first part of the lines is written
pub record WritesPartOfRun (documents : Bool) (s : Program) (old new : Option (List ℕ)) : Type 0 where
  pub lines : List Line
  pub are : AreFirstLines documents s lines
  pub written : WritesPart old new (lines_text lines)

-- what stands there after a fault: whole lines if memory ran out, else a first part of them
abbrev pub WritesUpTo : OutputFault → Bool → Program → Option (List ℕ) → Option (List ℕ) → Type 0
WritesUpTo Memory documents s old new = WritesFirstLines documents s old new
WritesUpTo WriteFault documents s old new = WritesPartOfRun documents s old new

-- ---- for private clauses

-- the instruction is performed, and the text is its line
pub record IsMove (documents : Bool) (at : ℕ) (i : Instr) (s t : State) (text : List ℕ) : Type 0 where
  pub shown : Option Shown
  pub performed : step s i ≡ Performed t shown
  pub is : text ≡ line_text (step_line documents at i s t)

-- the lines of the first p instructions
abbrev pub moves_text : Bool → Program → ℕ → List ℕ
moves_text documents s p = lines_text (lines_from documents 0 (opening_of s) (take p s.instrs))
