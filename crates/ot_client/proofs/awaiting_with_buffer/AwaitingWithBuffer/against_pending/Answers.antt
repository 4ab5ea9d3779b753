use Rattle.std.proofs.Common.{◌≡◌, ◌∙◌, sym}
use Rattle.ot_operation.specs.Merge.{second_after}
use Rattle.ot_operation.proofs.LengthLaws.{second_after-base, room_after}
use Rattle.ot_client.proofs.awaiting_with_buffer.AwaitingWithBuffer.against_pending.Goals as goal

pub transform_second-requires-2-clause-same_base : goal.transform_second-requires-2-clause-same_base
transform_second-requires-2-clause-same_base g c =
    let passed_is : c.in_ok-passed.passed ≡ second_after c.self.inside.outstanding c.args.op.now = c.in_ok-passed.ensures in
    rw passed_is (c.self.invariant ∙ sym (second_after-base c.self.inside.outstanding c.args.op.now))

pub transform_second-requires-2-clause-fits : goal.transform_second-requires-2-clause-fits
transform_second-requires-2-clause-fits g c =
    let passed_is : c.in_ok-passed.passed ≡ second_after c.self.inside.outstanding c.args.op.now = c.in_ok-passed.ensures in
    let same : c.self.inside.outstanding.base ≡ c.args.op.now.base = rw (← c.self.view_is) at (sym c.requires.base) in
    rw passed_is
    (room_after c.self.inside.outstanding c.args.op.now c.self.inside.buffer 1000000
    c.base_len-operation.ensures.operation c.base_len-operation-2.ensures.operation same c.self.invariant
    (rw (← c.self.view_is) at c.requires.fits))
