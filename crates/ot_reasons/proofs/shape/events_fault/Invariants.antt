use Rattle.std.proofs.Common.{◌≡◌, drop}
use Rattle.serde_json.specs.View.{items_view}
use Rattle.ot_reasons.specs.Places.{event_place}
use Rattle.ot_reasons.specs.Faults.{each_fault, event_fault}
use Rattle.ot_reasons.proofs.shape.events_fault.Given as goal

abbrev pub invariant-loop-k : goal.invariant-loop-k
invariant-loop-k l = each_fault (λ k. event_fault l.replicas (event_place k)) l.k (items_view (drop l.k l.items)) ≡ each_fault (λ k. event_fault l.replicas (event_place k)) 0 (items_view l.items)
