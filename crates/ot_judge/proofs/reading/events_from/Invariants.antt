use Rattle.std.proofs.Common.{◌≡◌, drop, ◌++◌}
use Rattle.std.specs.Prelude.{option_map}
use Rattle.serde_json.specs.View.{items_view}
use Rattle.ot_judge.specs.Views.{views}
use Rattle.ot_json.specs.Fields.{all_of}
use Rattle.ot_judge.specs.Reading.{event_of}
use Rattle.ot_judge.proofs.reading.events_from.Given as goal

abbrev pub invariant-loop-value : goal.invariant-loop-value
invariant-loop-value l = option_map (λ xs. views l.found.items ++ xs) (all_of (event_of l.replicas) (items_view (drop l.value-index l.items))) ≡ all_of (event_of l.replicas) (items_view l.items)
