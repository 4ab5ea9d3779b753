use Rattle.serde_json.specs.View.{view}
use Rattle.ot_plan.proofs.Empty.{length-json}
use Rattle.ot_plan.proofs.reading.read_plan.Goals as goal

pub returns-in-Ok-clause-memory : goal.returns-in-Ok-clause-memory
returns-in-Ok-clause-memory c = λ _. length-json c.args.text.now (view c.in-Ok.value) c.in-Ok.ensures.ok
