-- The verdict on a state.
use Rattle.std.specs.Prelude.{◌≡◌, ◌≤◌, length, Some}
use Rattle.ot_model.specs.Table.{State, IsQuiet}
use Rattle.ot_verdict.specs.Pending.{absent, untaken, waiting}
use Rattle.ot_verdict.specs.Ending.{ending}
use Rattle.ot_verdict.specs.First.{first_taken}
use Rattle.ot_verdict.specs.Laws.{AllAre, EndsIn}
use Rattle.ot_verdict.specs.declared.verdict.Outlook.{Outlook}
use Rattle.ot_verdict.specs.declared.verdict.Outlook.TheVariants.{Agreed, WillBe, Depends}
use Rattle.ot_verdict.specs.declared.verdict.Verdict.{Verdict}

-- all is quiet, and every document is this list
-- or not all is quiet, at most one client has edits that the server has not taken, and once everything has arrived, in whatever order, every document is this list
-- or these clients, two or more, have such edits, and this one's is taken first by what `complete` appends
abbrev pub IsOutlook : State → Outlook → Type 0
IsOutlook s (Agreed list) = AllAre s list
IsOutlook s (WillBe list) = (IsQuiet s → ⊥) × (length (untaken s) ≤ 1) × (list ≡ ending s) × EndsIn s list
IsOutlook s (Depends clients first) = (IsQuiet s → ⊥) × (2 ≤ length (untaken s)) × (clients.items ≡ untaken s) × (first_taken s ≡ Some first)

pub record IsVerdict (s : State) (v : Verdict) : Type 0 where
  pub outlook : IsOutlook s v.outlook
  pub waiting : v.waiting.items ≡ waiting s
  pub absent : v.absent.items ≡ absent s
