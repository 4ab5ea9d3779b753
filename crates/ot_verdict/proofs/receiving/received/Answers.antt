use Rattle.std.proofs.Common.{◌≤◌, ◌∙◌, ap, arith, length, sym}
use Rattle.ot_client.specs.Client.{state_of}
use Rattle.ot_client.specs.State as client
use Rattle.ot_isa.specs.declared.elements.Tagged.{Tagged}
use Rattle.std.specs.Prelude.{true}
use Rattle.ot_model.specs.Table.{is_joined, phase_in}
use Rattle.ot_generate.proofs.Owing.{within}
use Rattle.ot_verdict.proofs.Entries.{begins, has_received}
use Rattle.ot_verdict.proofs.Gathering.{has_in}
use Rattle.ot_verdict.proofs.receiving.received.Goals as goal

pub loop-number-init : goal.loop-number-init
loop-number-init c =
    let s = c.args.machine.now in
    let k = c.args.client in
    let seat = c.in_ok-seat.ensures in
    let revision = ap (λ (w : client.State Tagged). w.revision) seat ∙ has_in s k (λ x. x.revision) _ c.client.ensures.revision in
    record {
      receiving = begins s k (state_of c.in_ok-seat.seat) c.in_ok-list.list c.requires.sound (within s k (λ x. is_joined x.phase) true c.requires.joined)
          revision
          (ap (λ (w : client.State Tagged). phase_in w.phase) seat ∙ has_in s k (λ x. x.phase) _ c.client.ensures.phase)
          (c.in_ok-list.ensures ∙ has_in s k (λ x. x.list) _ c.document.ensures);
      revision = revision ∙ sym (has_in s k (λ x. x.revision) _ c.revision-number.ensures);
    }

pub returns : goal.returns
returns c =
    let s = c.args.machine.now in
    let now = state_of c.loop-number.seat in
    let end = c.server_revision-number-end.ensures in
    let at = c.loop-number.invariant.revision in
    let past : length s.log ≤ now.revision = omega (arith, end, at, c.loop-number-test.false) in
    has_received s c.args.client now c.loop-number.list c.loop-number.invariant.receiving past
