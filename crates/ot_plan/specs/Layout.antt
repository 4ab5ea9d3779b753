-- What the code reads from a JSON value without memory: the fields, the actions, and a survey of their limits.
use Rattle.std.specs.Prelude.{Bool, List, Option, ◌&&◌, option_and_then}
use Rattle.std.specs.List.{list_all}
use Rattle.std.specs.Str.{chars}
use Rattle.serde_json.specs.Data.{Data}
use Rattle.serde_json.specs.Find.{as_array}
use Rattle.serde_json.specs.View.{items_view}
use Rattle.ot_json.specs.Fields.{keep_if, all_of}
use Rattle.ot_plan.specs.Typing.{Action}
use Rattle.ot_plan.specs.declared.action.ActionText.{ActionText}
use Rattle.ot_plan.specs.declared.layout.Layout.{Layout}
use Rattle.ot_plan.specs.declared.survey.Survey.{Survey}
use Rattle.ot_plan.specs.Reading.{PlanData, action_of, is_action, is_short, is_few}

abbrev pub text_action : ActionText → Action
text_action a = record { at = a.at; delete = a.delete; insert = chars a.insert.now }

abbrev pub layout_view : Layout → PlanData
layout_view x = record { clients = x.clients; workers = x.workers; present = x.present; start = chars x.start.now; typing = items_view x.typing.now }

-- one client's actions, and those of all
abbrev pub row_survey : List Action → Survey
row_survey row = record { in_range = list_all is_action row; short = is_short row; few = is_few row }

abbrev pub rows_survey : List (List Action) → Survey
rows_survey rows = record { in_range = list_all (list_all is_action) rows; short = list_all is_short rows; few = list_all is_few rows }

abbrev pub both : Survey → Survey → Survey
both a b = record { in_range = a.in_range && b.in_range; short = a.short && b.short; few = a.few && b.few }

-- actions whose numbers are in range
abbrev pub action_in_range : Data → Option Action
action_in_range d = keep_if is_action (action_of d)

abbrev pub row_in_range : Data → Option (List Action)
row_in_range d = option_and_then (all_of action_in_range) (as_array d)
