use Rattle.std.proofs.Common.{◌≡◌, length, ◌∙◌, ap, sym}
use Rattle.ot_operation.specs.Operation.{Operation}
use Rattle.ot_operation.specs.Merge.{second_after}
use Rattle.ot_operation.proofs.LengthLaws.{first_after-base, second_after-base, length-after, room_after}
use Rattle.ot_client.proofs.awaiting_with_buffer.AwaitingWithBuffer.transform.Goals as goal

pub transformed_in_place-requires-clause-base : goal.transformed_in_place-requires-clause-base
transformed_in_place-requires-clause-base g c =
    let passed_is : c.in_ok-first.passed ≡ second_after c.self.inside.outstanding c.args.op.now = c.in_ok-first.ensures.op in
    rw passed_is (c.self.invariant ∙ sym (second_after-base c.self.inside.outstanding c.args.op.now))

pub transformed_in_place-requires-clause-fits : goal.transformed_in_place-requires-clause-fits
transformed_in_place-requires-clause-fits g c =
    let passed_is : c.in_ok-first.passed ≡ second_after c.self.inside.outstanding c.args.op.now = c.in_ok-first.ensures.op in
    let same : c.self.inside.outstanding.base ≡ c.args.op.now.base = rw (← c.self.view_is) at (sym c.requires.base) in
    rw passed_is
    (room_after c.self.inside.outstanding c.args.op.now c.self.inside.buffer 1000000
    c.base_len-operation.ensures.operation c.base_len-operation-2.ensures.operation same c.self.invariant
    (rw (← c.self.view_is) at c.requires.fits))

pub returns-clause-base : goal.returns-clause-base
returns-clause-base g c =
    rw (← c.self.view_is)
    (ap (λ (codes : Operation (Unit {0}) × Operation (Unit {0})). codes.1.base) c.in_ok-codes.ensures.ok
    ∙ ap (λ op. op.base) c.in_ok-second.ensures.codes
    ∙ first_after-base c.self.inside.buffer c.in_ok-first.passed
    ∙ ap (λ op. length op.image) c.in_ok-first.ensures.op
    ∙ length-after c.self.inside.outstanding c.args.op.now)
