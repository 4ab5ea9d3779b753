-- What an instruction would change, determined before it is performed, and which of the watches have to be looked at.
use Rattle.std.specs.Prelude.{◌≡◌, ◌≢◌, ◌<◌, ◌≤◌, ℕ, length, List, Bool, true, false, slice_get, Some, MatchBool}
use Rattle.ot_isa.specs.declared.elements.Tagged.{Tagged}
use Rattle.ot_operation.specs.Operation.{Operation, apply}
use Rattle.ot_model.specs.Table.{State, Outcome, Performed}
use Rattle.ot_debug.specs.declared.command.Watched.{Watched}
use Rattle.ot_debug.specs.Stops.{IsChanged}

-- whether the operation makes another list of the list
abbrev pub ChangesList : Operation Tagged → List Tagged → Bool → Type 0
ChangesList op list changed = MatchBool changed (apply op list ≢ list) (apply op list ≡ list)

-- whether what the watch looks at changes where the table performs the instruction
abbrev pub Foretells : Outcome → State → Watched → Bool → Type 0
Foretells (Performed t shown) s watch changed = MatchBool changed (IsChanged watch s t) (¬ IsChanged watch s t)
Foretells other s watch changed = Unit {0}

-- so of the watch with this number, if it is there
abbrev pub ForetellsOf : Outcome → State → List Watched → ℕ → Bool → Type 0
ForetellsOf outcome s watches number changed = (watch : Watched) → slice_get watches number ≡ Some watch → Foretells outcome s watch changed

-- the watch with this number sees a change, and none of a lesser number does
pub record ForetellsFirst (outcome : Outcome) (s : State) (watches : List Watched) (number : ℕ) : Type 0 where
  pub within : number < length watches
  pub changes : ForetellsOf outcome s watches number true
  pub first : (less : ℕ) → less < number → ForetellsOf outcome s watches less false

-- the watch has one of these numbers, which is not past `last`
pub record IsAmong (watches : List Watched) (numbers : List ℕ) (last : ℕ) (watch : Watched) : Type 0 where
  pub place : ℕ
  pub number : ℕ
  pub listed : slice_get numbers place ≡ Some number
  pub is : slice_get watches number ≡ Some watch
  pub before : number ≤ last

-- these are the numbers, in order, of the watches that no equal one stands before
pub record AreFirsts (watches : List Watched) (firsts : List ℕ) : Type 0 where
  pub there : (j m : ℕ) → slice_get firsts j ≡ Some m → m < length watches
  pub apart : (j k m n : ℕ) → j < k → slice_get firsts j ≡ Some m → slice_get firsts k ≡ Some n → (m < n) × (slice_get watches m ≢ slice_get watches n)
  pub each : (number : ℕ) (watch : Watched) → slice_get watches number ≡ Some watch → IsAmong watches firsts number watch
