use Rattle.std.proofs.Common.{◌≡◌, drop}
use Rattle.serde_json.specs.View.{items_view}
use Rattle.ot_reasons.specs.Places.{in_part}
use Rattle.ot_reasons.specs.Faults.{each_fault}
use Rattle.ot_reasons.specs.PlanFaults.{action_fault}
use Rattle.ot_reasons.proofs.plan_faults.actions_fault.Given as goal

abbrev pub invariant-loop-k : goal.invariant-loop-k
invariant-loop-k l = each_fault (λ k. action_fault l.kind (in_part l.place k)) l.k (items_view (drop l.k l.items)) ≡ each_fault (λ k. action_fault l.kind (in_part l.place k)) 0 (items_view l.items)
