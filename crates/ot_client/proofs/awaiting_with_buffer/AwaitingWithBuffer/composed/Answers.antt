use Rattle.std.proofs.Common.{◌≡◌, length, ◌∙◌, ap}
use Rattle.std.proofs.lemmas.Result.{IfOk-weaker}
use Rattle.ot_operation.specs.Compose.{compose}
use Rattle.ot_operation.proofs.LengthLaws.{compose-base}
use Rattle.ot_client.proofs.awaiting_with_buffer.AwaitingWithBuffer.composed.Goals as goal

pub returns-clause-base : goal.returns-clause-base
returns-clause-base g c =
    rw (← c.self.view_is)
    (IfOk-weaker c.compose.result (λ buffer. buffer ≡ compose c.self.inside.buffer c.args.op.now) (λ buffer. buffer.base ≡ length c.self.inside.outstanding.image)
    (λ buffer is. ap (λ op. op.base) is ∙ compose-base c.self.inside.buffer c.args.op.now ∙ c.self.invariant)
    c.compose.ensures)
