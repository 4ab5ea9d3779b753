use Rattle.std.proofs.lemmas.Result.{err_from_is_err_and}
use Rattle.ot_image.specs.Views.{seen}
use Rattle.ot_image.specs.Reading.{push_component}
use Rattle.ot_image.proofs.Loop.{goes_on, ends, is_done}
use Rattle.ot_image.proofs.Onward.{push_component_onward}
use Rattle.ot_image.proofs.Steps.{components_fail, components_end}
use Rattle.ot_image.proofs.edits.components_of.Goals as goal

pub returns-in_err-code : goal.returns-in_err-code
returns-in_err-code c =
    let p = err_from_is_err_and c.from_residual.result c.from_residual.ensures.1 in
    rw (p.1, p.2) (components_fail c.in_err-code.field-0.0 c.args.count (seen c.args.spot)
    (ends push_component push_component_onward c.in_err-code.field-0.0 c.args.count c.loop.counter (record { last = c.loop.last; op = c.loop.op }) (seen c.loop.rest) _ c.loop-test.true c.in_err-code.ensures c.loop.invariant))

pub loop-preserved : goal.loop-preserved
loop-preserved c = goes_on push_component c.args.count c.loop.counter (record { last = c.loop.last; op = c.loop.op }) (seen c.loop.rest) (record { last = c.in_ok-code.code; op = c.component_of.new.op }) (seen c.in_ok-code.after) _ c.loop-test.true c.in_ok-code.ensures c.loop.invariant

pub returns : goal.returns
returns c = components_end c.args.count (seen c.args.spot) _ _ (is_done push_component c.args.count c.loop.counter (record { last = c.loop.last; op = c.loop.op }) (seen c.loop.rest) _ c.loop-test.false c.loop.invariant)
