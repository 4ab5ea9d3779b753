use Rattle.std.proofs.Common.{◌∙◌, ap, rules, sym}
use Rattle.std.specs.Prelude.{unwrap_or}
use Rattle.ot_client.specs.Client.{state_of}
use Rattle.ot_client.specs.State as state
use Rattle.ot_machine.proofs.Receiving.{may_receive, received_base}
use Rattle.ot_machine.proofs.machine.Machine.delivery.Goals as goal

pub against_pending-requires : goal.against_pending-requires
against_pending-requires c =
    rw c.operation-op.ensures
    (may_receive c.args.self.now c.args.client c.seat-seat.result.now c.in-Some.receiver c.in-Some-head.entry.now c.clients-sound.ensures.sound c.seat-seat.ensures.client c.in-Some.is
    (search rules) (search rules))

pub returns-in-Some-2-clause-fits : goal.returns-in-Some-2-clause-fits
returns-in-Some-2-clause-fits c =
    received_base c.args.self.now c.args.client c.seat-seat.result.now c.in-Some.receiver c.in-Some-head.entry.now c.clients-sound.ensures.sound c.seat-seat.ensures.client c.in-Some.is
    (search rules) (search rules) c.in-Some-2.applied
    (ap (λ o. unwrap_or o c.operation-op.result.now) (sym c.in-Some-2.is) ∙ c.in_ok-applied.ensures ∙ ap (state.against_pending (state_of c.in-Some.receiver).phase) c.operation-op.ensures)

pub returns-in_ok-copy-in-None-clause-fits : goal.returns-in_ok-copy-in-None-clause-fits
returns-in_ok-copy-in-None-clause-fits c =
    received_base c.args.self.now c.args.client c.seat-seat.result.now c.in-Some.receiver c.in-Some-head.entry.now c.clients-sound.ensures.sound c.seat-seat.ensures.client c.in-Some.is
    (search rules) (search rules) c.in_ok-copy-in-None.field-0
    (c.in_ok-copy-in-None.ensures ∙ ap (λ o. unwrap_or o c.operation-op.result.now) (sym c.in-None.is) ∙ c.in_ok-applied.ensures ∙ ap (state.against_pending (state_of c.in-Some.receiver).phase) c.operation-op.ensures)
