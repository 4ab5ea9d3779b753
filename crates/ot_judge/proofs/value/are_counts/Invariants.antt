use Rattle.std.proofs.Common.{◌≡◌, drop}
use Rattle.std.specs.Prelude.{is_some}
use Rattle.serde_json.specs.View.{items_view}
use Rattle.ot_json.specs.Fields.{all_of}
use Rattle.ot_judge.specs.Reading.{count_of}
use Rattle.ot_judge.proofs.value.are_counts.Given as goal

abbrev pub invariant-loop-value : goal.invariant-loop-value
invariant-loop-value l = is_some (all_of count_of (items_view (drop l.value-index l.items))) ≡ is_some (all_of count_of (items_view l.items))
