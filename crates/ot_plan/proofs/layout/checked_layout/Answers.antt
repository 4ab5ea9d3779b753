use Rattle.std.specs.Prelude.{Some, None}
use Rattle.serde_json.specs.View.{view}
use Rattle.ot_plan.proofs.Surveyed.{seen, seen-fault, seen-none}
use Rattle.ot_plan.proofs.layout.checked_layout.Goals as goal

pub returns-in-Some-fault_in-clause-err : goal.returns-in-Some-fault_in-clause-err
returns-in-Some-fault_in-clause-err c =
    seen-fault (view c.args.value.now) c.in-Some.x c.in-Some-fault_in.fault c.in-Some.ensures
    (seen c.in-Some.x c.in-Some-survey_rows.actions (Some c.in-Some-fault_in.fault) c.in-Some-survey_rows.ensures c.in-Some-fault_in.ensures.value)

pub returns-in-None-clause-ok : goal.returns-in-None-clause-ok
returns-in-None-clause-ok c =
    seen-none c.in-Some.x (seen c.in-Some.x c.in-Some-survey_rows.actions None c.in-Some-survey_rows.ensures c.in-None.ensures.value)
