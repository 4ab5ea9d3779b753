use Rattle.std.proofs.Common.{◌≡◌, ◌∙◌, refl}
use Rattle.ot_operation.specs.Operation.{IsOperation}
use Rattle.ot_operation.specs.Merge.{first_after}
use Rattle.ot_server.proofs.Transformed.{transformed_next}
use Rattle.ot_server.proofs.later.transform_after.Goals as goal

pub loop-entry-preserved : goal.loop-entry-preserved
loop-entry-preserved g c =
    let next_is : c.transform_in_place.new.a ≡ first_after c.loop-entry.transformed c.entry-item.result.op =
    c.in_ok-transform_in_place.ensures.ok ∙ rw c.operation-in-loop-entry.ensures refl in
    let entry_rises : IsOperation c.entry-item.result.op =
    rw c.operation.ensures at c.base_len-operation-in-loop-entry.ensures.operation in
    transformed_next c.args.op.now c.args.entries.now c.args.end c.loop-entry.entry-index c.loop-entry.transformed c.entry-item.result
    c.loop-entry-test.true c.entry-item.is c.loop-entry.invariant c.transform_in_place.new.a
    next_is c.base_len-operation.ensures.operation entry_rises
