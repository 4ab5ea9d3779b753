use Rattle.std.proofs.Common.{◌∙◌, ap, sym}
use Rattle.std.specs.Prelude.{option_map}
use Rattle.ot_judge.specs.Reading.{event_of}
use Rattle.ot_judge.specs.Views.{event_view, views}
use Rattle.ot_judge.proofs.Grown.{all-end, all-more, all-none, all-start}
use Rattle.ot_judge.proofs.Views.{views-push}
use Rattle.ot_judge.proofs.reading.events_from.Goals as goal

pub loop-value-init : goal.loop-value-init
loop-value-init c = all-start (views c.new-found.result.items) _ (ap views c.new-found.ensures.items)

pub loop-value-preserved : goal.loop-value-preserved
loop-value-preserved c =
    all-more (event_of c.args.replicas) c.args.items.now c.loop-value.value-index c.value-item.result _ _ (event_view c.in-Some.event) _ c.loop-value-test.true c.value-item.is (sym c.in_ok-event.ensures ∙ ap (option_map event_view) c.in-Some.is) (views-push _ _ _ c.in_ok-push-in-Some.ensures.items) c.loop-value.invariant

pub returns-in-None : goal.returns-in-None
returns-in-None c =
    all-none (event_of c.args.replicas) c.args.items.now c.loop-value.value-index c.value-item.result _ _ c.loop-value-test.true c.value-item.is (sym c.in_ok-event.ensures ∙ ap (option_map event_view) c.in-None.is) c.loop-value.invariant

pub returns : goal.returns
returns c = all-end (event_of c.args.replicas) c.args.items.now c.loop-value.value-index _ _ c.loop-value-test.false c.loop-value.invariant
