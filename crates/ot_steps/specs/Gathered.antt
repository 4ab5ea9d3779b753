-- Lines that are held for a while before they are written: for private clauses.
use Rattle.std.specs.Prelude.{◌≡◌, ◌⊎◌, ℕ, ◌≤◌, List, [], ◌++◌, Bool, Option, Some, is_some}
use Rattle.std.specs.Io.KnownBytes.{Appends}
use Rattle.streams.specs.Streams.{WritesPart}
use Rattle.ot_isa.specs.Program.{Program}
use Rattle.ot_model.specs.declared.shown.Refusal.{Refusal}
use Rattle.ot_model.specs.Table.{Place, State}
use Rattle.ot_model.specs.Runs.{done, place_at}
use Rattle.ot_machine.specs.Ended.{reached, IsStop}
use Rattle.ot_steps.specs.Lines.{Line}
use Rattle.ot_steps.specs.Steps.{first_lines}
use Rattle.ot_steps.specs.Text.{lines_text}
use Rattle.ot_steps.specs.Written.{AreFirstLines, AreRunLines, moves_text}
use Rattle.streams.specs.declared.OutputFault.{OutputFault}
use Rattle.streams.specs.declared.OutputFault.TheVariants.{Memory, WriteFault}

-- what was held and then a text: a front of it is written, and the rest is held
pub record Gathers (old new : Option (List ℕ)) (held held' text : List ℕ) : Type 0 where
  pub front : List ℕ
  pub written : Appends old new front
  pub is : held ++ text ≡ front ++ held'

-- after a fault: if memory ran out the text is not added, else a first part of both is written
abbrev pub GathersUpTo : OutputFault → Option (List ℕ) → Option (List ℕ) → List ℕ → List ℕ → List ℕ → Type 0
GathersUpTo Memory old new held held' text = Gathers old new held held' []
GathersUpTo WriteFault old new held held' text = WritesPart old new (held ++ text)

-- all instructions up to the stop are performed, and their lines gathered
pub record GathersMoves (documents : Bool) (s : Program) (stopped : Option (ℕ × Refusal)) (state : State) (old new : Option (List ℕ)) (held held' : List ℕ) : Type 0 where
  pub place : Place
  pub at : place_at s (reached s stopped) ≡ Some place
  pub state_is : place.state ≡ state
  pub stop : IsStop s state stopped
  pub gathered : Gathers old new held held' (moves_text documents s (reached s stopped))

-- after a fault among them
abbrev pub MovesUpTo : OutputFault → Bool → Program → Option (List ℕ) → Option (List ℕ) → List ℕ → List ℕ → Type 0
MovesUpTo Memory documents s old new held held' = (p : ℕ) × (p ≤ done s) × Gathers old new held held' (moves_text documents s p)
MovesUpTo WriteFault documents s old new held held' = (p : ℕ) × (p ≤ done s) × WritesPart old new (held ++ moves_text documents s p)

-- all lines of the run are gathered; `refused` says whether an instruction was not performed
pub record GathersRun (documents : Bool) (s : Program) (refused : Bool) (old new : Option (List ℕ)) (held held' : List ℕ) : Type 0 where
  pub stopped : Option (ℕ × Refusal)
  pub lines : List Line
  pub are : AreRunLines documents s stopped lines
  pub refused_is : refused ≡ is_some stopped
  pub gathered : Gathers old new held held' (lines_text lines)

-- a first part of the lines is written
pub record CutsRun (documents : Bool) (s : Program) (old new : Option (List ℕ)) (held : List ℕ) : Type 0 where
  pub lines : List Line
  pub are : AreFirstLines documents s lines
  pub written : WritesPart old new (held ++ lines_text lines)

-- after a fault: if memory ran out nothing is added, or the first lines are; else a first part of them is written
abbrev pub RunUpTo : OutputFault → Bool → Program → Option (List ℕ) → Option (List ℕ) → List ℕ → List ℕ → Type 0
RunUpTo Memory documents s old new held held' =
    Gathers old new held held' [] ⊎ ((p : ℕ) × (p ≤ done s) × Gathers old new held held' (lines_text (first_lines documents s p)))
RunUpTo WriteFault documents s old new held held' = CutsRun documents s old new held
