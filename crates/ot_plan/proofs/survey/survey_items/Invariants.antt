use Rattle.std.proofs.Common.{◌≡◌, ◌+◌, ◌-◌, ◌^◌, ◌≤◌, drop, true}
use Rattle.std.specs.Prelude.{option_map}
use Rattle.serde_json.specs.View.{items_view}
use Rattle.ot_json.specs.Fields.{all_of}
use Rattle.ot_plan.specs.Reading.{action_of}
use Rattle.ot_plan.proofs.Surveyed.{counted}
use Rattle.ot_plan.proofs.survey.survey_items.Given as goal

abbrev pub invariant-loop-value : goal.invariant-loop-value
invariant-loop-value l = record {
  small : l.inserted ≤ 2 ^ 64 - 1;
  left : option_map (counted l.in_range l.inserted) (all_of action_of (items_view (drop l.value-index l.items))) ≡ option_map (counted true 0) (all_of action_of (items_view l.items));
}
