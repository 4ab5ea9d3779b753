use Rattle.ot_text.specs.Components.{run_of}
use Rattle.ot_rules.proofs.Over.{behind_within, units_more}
use Rattle.ot_rules.proofs.units.components_in_units.Goals as goal

pub loop-component-preserved : goal.loop-component-preserved
loop-component-preserved c = (
  units_more c.loop-component.built c.add.new.built c.loop-component.rest.now c.behind-rest.result.now (run_of c.in-Some.component) c.loop-component.component-iterator c.next.new.self _ c.in_ok-add.field-0
      c.in-Some.ensures.steps c.loop-component.invariant.0 c.if-not-branch.false c.in_ok-add.ensures c.behind-rest.ensures,
  behind_within c.loop-component.rest.now c.behind-rest.result.now (run_of c.in-Some.component) c.loop-component.invariant.1 c.behind-rest.ensures,
)
