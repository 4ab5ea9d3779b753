use Rattle.std.proofs.Common.{sym, ◌∙◌}
use Rattle.serde_json.specs.View.{view}
use Rattle.ot_judge.proofs.Spelled.{event-fit, event-unfit}
use Rattle.ot_judge.proofs.reading.event_of.Goals as goal

pub returns-then-not-is_fitting : goal.returns-then-not-is_fitting
returns-then-not-is_fitting c = event-unfit c.args.replicas (view c.args.value.now) c.in-Some.x c.in-Some.ensures (sym c.is_fitting.ensures ∙ c.if-not-is_fitting.true)

pub returns : goal.returns
returns c = c.in_ok-made.ensures ∙ event-fit c.args.replicas (view c.args.value.now) c.in-Some.x c.in-Some.ensures (sym c.is_fitting.ensures ∙ c.if-not-is_fitting.false)
