use Rattle.std.proofs.Common.{◌∙◌, Vec, Global}
use Rattle.ot_isa.specs.declared.elements.Tag.{Tag}
use Rattle.ot_model.specs.Trace.{EventView}
use Rattle.ot_judge.specs.Views.{event_view}
use Rattle.ot_judge.proofs.Grown.{mapped-more}
use Rattle.ot_judge.proofs.decide.lists_of.Goals as goal

pub loop-x-preserved : goal.loop-x-preserved
loop-x-preserved c =
    mapped-more (λ (w : Vec Tag Global). w.items) (λ (y : EventView). y.list) event_view _ _ c.args.events.now c.loop-x.x-index c.in_ok-copy.copy c.x-item.result c.loop-x-test.true c.x-item.is c.in_ok-push.ensures.items (c.in_ok-copy.ensures.items ∙ c.as_slice.ensures.value) c.loop-x.invariant
