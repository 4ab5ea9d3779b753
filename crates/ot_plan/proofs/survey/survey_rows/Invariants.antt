use Rattle.std.proofs.Common.{◌≡◌, drop}
use Rattle.std.specs.Prelude.{option_map}
use Rattle.serde_json.specs.View.{items_view}
use Rattle.ot_json.specs.Fields.{all_of}
use Rattle.ot_plan.specs.Reading.{row_of}
use Rattle.ot_plan.specs.Layout.{both, rows_survey}
use Rattle.ot_plan.proofs.survey.survey_rows.Given as goal

abbrev pub invariant-loop-value : goal.invariant-loop-value
invariant-loop-value l = option_map (λ rows. both l.all (rows_survey rows)) (all_of row_of (items_view (drop l.value-index l.items))) ≡ option_map rows_survey (all_of row_of (items_view l.items))
