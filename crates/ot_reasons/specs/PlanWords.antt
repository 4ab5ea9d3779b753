-- The words for what a plan is, and for why a value is none.
use Rattle.std.specs.Prelude.{◌≡◌, ◌⊎◌, ◌==◌, ℕ, List, [], ◌++◌, length, Some, None, codes, decimal, if◌then◌else◌, sum_by}
use Rattle.serde_json.specs.Data.{Data}
use Rattle.serde_json.specs.Read.{read}
use Rattle.ot_plan.specs.Typing.{Action}
use Rattle.ot_plan.specs.Plan.{PlanView}
use Rattle.ot_plan.specs.declared.fault.PlanFault.{PlanFault}
use Rattle.ot_reasons.specs.declared.plan_faults.PlanRefusal.{PlanRefusal}
use Rattle.ot_reasons.specs.PlanFaults.{plan_fault}
use Rattle.ot_reasons.specs.Words.{IsFaultText}

-- `1 worker`, `2 workers`
abbrev pub ending : ℕ → List ℕ
ending n = if n == 1 then [] else codes "s"

abbrev pub counted : ℕ → List ℕ → List ℕ
counted n one = decimal n ++ (codes " " ++ (one ++ ending n))

-- how many actions all clients' users type
abbrev pub action_count : List (List Action) → ℕ
action_count rows = sum_by (λ (row : List Action). length row) rows

-- the line that says what a plan is
abbrev pub plan_text : PlanView → List ℕ
plan_text p =
    codes "a plan: " ++ (counted p.clients (codes "client") ++ (codes ", " ++ (counted p.workers (codes "worker") ++ (codes ", " ++ (counted (action_count p.typing) (codes "action") ++ codes " of typing\n")))))

-- the words for a value that is refused with this fault: where the first fault is, what stands there, what is wanted
abbrev pub IsValueReason : Data → PlanFault → List ℕ → Type 0
IsValueReason d fault text = (r : PlanRefusal) × (plan_fault d ≡ Some r) × (r.kind ≡ fault) × IsFaultText (codes "the plan") d r.fault text

-- the words for a text that is refused with this fault; of a text that is no JSON nothing is said of them
abbrev pub IsReason : List ℕ → PlanFault → List ℕ → Type 0
IsReason text fault words = (read text ≡ None) ⊎ ((d : Data) × (read text ≡ Some d) × IsValueReason d fault words)
