use Rattle.std.proofs.Common.{◌≡◌, drop}
use Rattle.serde_json.specs.View.{items_view}
use Rattle.ot_reasons.specs.Places.{in_item}
use Rattle.ot_reasons.specs.Faults.{each_fault, count_fault}
use Rattle.ot_reasons.proofs.checks.counts_fault.Given as goal

abbrev pub invariant-loop-k : goal.invariant-loop-k
invariant-loop-k l = each_fault (λ k. count_fault (in_item l.place k)) l.k (items_view (drop l.k l.items)) ≡ each_fault (λ k. count_fault (in_item l.place k)) 0 (items_view l.items)
