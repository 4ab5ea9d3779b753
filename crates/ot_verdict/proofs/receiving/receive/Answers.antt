use Rattle.std.proofs.Common.{◌∙◌, ap, sym, subst}
use Rattle.ot_client.specs.Client.{state_of}
use Rattle.ot_client.specs.State as client
use Rattle.ot_client.specs.Conditions as conditions
use Rattle.ot_isa.specs.declared.elements.Tagged.{Tagged}
use Rattle.ot_model.specs.Operation.{Operation, apply}
use Rattle.ot_verdict.proofs.Entries.{below_limit, fits_now, may_acknowledge, next_other, next_own}
use Rattle.ot_verdict.proofs.receiving.receive.Goals as goal

pub acknowledge-requires-clause-awaiting : goal.acknowledge-requires-clause-awaiting
acknowledge-requires-clause-awaiting c =
    may_acknowledge c.args.machine.now c.args.number (state_of c.args.client) c.args.list.now c.requires.receiving c.args.entry.now c.requires.next (sym c.maker.ensures ∙ c.if-maker-number.true)

pub acknowledge-requires-clause-revision : goal.acknowledge-requires-clause-revision
acknowledge-requires-clause-revision c =
    below_limit c.args.machine.now c.args.number (state_of c.args.client) c.args.list.now c.requires.receiving c.args.entry.now c.requires.next

pub returns-in-Ok-clause-receiving : goal.returns-in-Ok-clause-receiving
returns-in-Ok-clause-receiving c =
    next_own c.args.machine.now c.args.number (state_of c.args.client) c.args.list.now c.requires.receiving c.args.entry.now (state_of c.in-Ok.next) c.requires.next (sym c.maker.ensures ∙ c.if-maker-number.true)
    c.in-Ok.ensures.revision c.in-Ok.ensures.phase

pub deliver-requires-clause-revision : goal.deliver-requires-clause-revision
deliver-requires-clause-revision c =
    below_limit c.args.machine.now c.args.number (state_of c.args.client) c.args.list.now c.requires.receiving c.args.entry.now c.requires.next

pub deliver-requires-clause-operations : goal.deliver-requires-clause-operations
deliver-requires-clause-operations c =
    let now = state_of c.args.client in
    let fits = fits_now c.args.machine.now c.args.number now c.args.list.now c.requires.receiving c.args.entry.now c.requires.next (λ e. c.if-maker-number.false (c.maker.ensures ∙ e)) in
    subst (conditions.MayDeliver now.phase) (sym (c.in_ok-copy.ensures ∙ c.operation.ensures)) fits.0

pub change-requires : goal.change-requires
change-requires c =
    let now = state_of c.args.client in
    let fits = fits_now c.args.machine.now c.args.number now c.args.list.now c.requires.receiving c.args.entry.now c.requires.next (λ e. c.if-maker-number.false (c.maker.ensures ∙ e)) in
    ap (λ (op : Operation Tagged). op.base) (c.in-Ok-deliver.ensures.applied ∙ ap (client.against_pending now.phase) (c.in_ok-copy.ensures ∙ c.operation.ensures)) ∙ fits.1

pub returns-in_ok-change-in-Ok-deliver-clause-receiving : goal.returns-in_ok-change-in-Ok-deliver-clause-receiving
returns-in_ok-change-in-Ok-deliver-clause-receiving c =
    let now = state_of c.args.client in
    let op = c.in_ok-copy.ensures ∙ c.operation.ensures in
    next_other c.args.machine.now c.args.number now c.args.list.now c.requires.receiving c.args.entry.now (state_of c.in-Ok-deliver.next) c.change.new.self c.requires.next (λ e. c.if-maker-number.false (c.maker.ensures ∙ e))
    (c.in-Ok-deliver.ensures.state ∙ ap (client.delivered now) op)
    (c.in_ok-change-in-Ok-deliver.ensures.ok ∙ ap (λ (applied : Operation Tagged). apply applied c.args.list.now) (c.in-Ok-deliver.ensures.applied ∙ ap (client.against_pending now.phase) op))
