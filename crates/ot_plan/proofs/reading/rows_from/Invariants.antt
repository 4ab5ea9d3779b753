use Rattle.std.proofs.Common.{◌≡◌, drop, ◌++◌}
use Rattle.std.specs.Prelude.{option_map}
use Rattle.serde_json.specs.View.{items_view}
use Rattle.ot_json.specs.Fields.{all_of}
use Rattle.ot_plan.specs.Typing.{typing_view}
use Rattle.ot_plan.specs.Layout.{row_in_range}
use Rattle.ot_plan.proofs.reading.rows_from.Given as goal

abbrev pub invariant-loop-value : goal.invariant-loop-value
invariant-loop-value l = option_map (λ xs. typing_view l.found.items ++ xs) (all_of row_in_range (items_view (drop l.value-index l.items))) ≡ all_of row_in_range (items_view l.items)
