use Rattle.std.proofs.Common.{sym, ◌∙◌, ap, arith}
use Rattle.std.proofs.lemmas.List.Folds.{list_all_at}
use Rattle.ot_judge.specs.Making.{is_event}
use Rattle.ot_judge.specs.Views.{views}
use Rattle.ot_model.specs.Trace.{no_event}
use Rattle.ot_judge.proofs.Views.{event_at-views, length-views}
use Rattle.ot_judge.proofs.trace.are_events.Goals as goal

pub returns-then-not-is_event : goal.returns-then-not-is_event
returns-then-not-is_event c =
    sym (list_all_at (is_event c.args.replicas) (views c.args.events.now) c.loop-x.x-index no_event (omega (arith, c.loop-x-test.true, length-views c.args.events.now))
    (ap (is_event c.args.replicas) (event_at-views c.args.events.now c.loop-x.x-index c.x-item.result c.loop-x-test.true c.x-item.is) ∙ sym c.is_event.ensures ∙ c.if-not-is_event.true))
