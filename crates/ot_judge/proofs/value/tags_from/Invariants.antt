use Rattle.std.proofs.Common.{◌≡◌, drop, ◌++◌}
use Rattle.std.specs.Prelude.{option_map}
use Rattle.serde_json.specs.View.{items_view}
use Rattle.ot_json.specs.Fields.{all_of}
use Rattle.ot_judge.specs.Reading.{tag_of}
use Rattle.ot_judge.proofs.value.tags_from.Given as goal

abbrev pub invariant-loop-value : goal.invariant-loop-value
invariant-loop-value l = option_map (λ xs. l.found.items ++ xs) (all_of tag_of (items_view (drop l.value-index l.items))) ≡ all_of tag_of (items_view l.items)
