use Rattle.std.proofs.Common.{◌≡◌, drop}
use Rattle.serde_json.specs.View.{items_view}
use Rattle.ot_reasons.specs.Places.{row_place}
use Rattle.ot_reasons.specs.Faults.{each_fault}
use Rattle.ot_reasons.specs.PlanFaults.{row_fault}
use Rattle.ot_reasons.proofs.plan_faults.rows_fault.Given as goal

abbrev pub invariant-loop-k : goal.invariant-loop-k
invariant-loop-k l = each_fault (λ k. row_fault l.kind (row_place k)) l.k (items_view (drop l.k l.items)) ≡ each_fault (λ k. row_fault l.kind (row_place k)) 0 (items_view l.items)
