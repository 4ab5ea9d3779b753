use Rattle.std.proofs.Common.{◌≡◌, drop, ◌+◌, ◌-◌, ◌^◌, ◌≤◌, min}
use Rattle.std.specs.Prelude.{option_map}
use Rattle.serde_json.specs.View.{items_view}
use Rattle.ot_judge.specs.Layout.{entries_of}
use Rattle.ot_judge.proofs.reading.entries_of.Given as goal

abbrev pub invariant-loop-value : goal.invariant-loop-value
invariant-loop-value l = record {
  small : l.count ≤ 2 ^ 64 - 1;
  left : option_map (λ n. min (l.count + n) (2 ^ 64 - 1)) (entries_of l.replicas (items_view (drop l.value-index l.items))) ≡ option_map (λ n. min n (2 ^ 64 - 1)) (entries_of l.replicas (items_view l.items));
}
