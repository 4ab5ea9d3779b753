-- What is printed of a run on threads.
use Rattle.std.specs.Prelude.{◌≡◌, ℕ, List, [], ◌∷◌, ◌++◌, Bool, true, false, Some, ◌==◌}
use Rattle.ot_isa.specs.Program.{Program}
use Rattle.ot_model.specs.Table.{State, Place}
use Rattle.ot_model.specs.Runs.{done, place_at}
use Rattle.ot_asm.specs.Canonical.{canonical}
use Rattle.ot_report.specs.Printed.{IsEnd}
use Rattle.ot_plan.specs.Plan.{PlanView}
use Rattle.ot_threads.specs.Follows.{Follows}

-- lines as comments: `; ` stands before each; the flag says that a line begins
abbrev pub commented_from : Bool → List ℕ → List ℕ
commented_from starts [] = []
commented_from true (b ∷ bs) = 59 ∷ 32 ∷ b ∷ commented_from (b == 10) bs
commented_from false (b ∷ bs) = b ∷ commented_from (b == 10) bs

abbrev pub commented : List ℕ → List ℕ
commented text = commented_from true text

-- the canonical text of the schedule, and then the state's end as comments
abbrev pub IsPrinted : Program → State → List ℕ → Type 0
IsPrinted s t text = (end : List ℕ) × IsEnd t end × (text ≡ canonical s ++ commented end)

-- the text is that of a schedule that follows the plan: its canonical text, and where its run ends
pub record IsRecord (p : PlanView) (s : Program) (text : List ℕ) : Type 0 where
  pub follows : Follows p s
  pub end : Place
  pub is_end : place_at s (done s) ≡ Some end
  pub printed : IsPrinted s end.state text
