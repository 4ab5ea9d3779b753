use Rattle.std.proofs.Common.{◌∙◌, ◌+◌, ap, refl, rules, set, sym}
use Rattle.ot_model.specs.Table.{delivered}
use Rattle.ot_isa.specs.declared.instruction.Instr.TheVariants.{Deliver}
use Rattle.ot_machine.specs.Seats.{client_of, state_from}
use Rattle.ot_machine.proofs.RowLaws.{of_value, wanting}
use Rattle.ot_machine.proofs.Delivering.{receiver_queue, receiver_may, receiver_empty, receiver_done, receiver_performs, receiver_wrong}
use Rattle.ot_machine.proofs.Effects.{applied_is, did, receiver}
use Rattle.ot_machine.proofs.Keeping.{client_record}
use Rattle.ot_machine.proofs.Sharing.{common_is}
use Rattle.ot_machine.proofs.machine.Machine.deliver.Goals as goal

pub head-requires : goal.head-requires
head-requires g c =
    let here = receiver c.self.inside.server c.self.inside.seats.items c.self.inside.steps c.args.client c.index_mut-seat.result.now c.args.self.now c.self.invariant c.self.view_is c.requires.ready c.index_mut-seat.ensures.value in
    receiver_queue c.self.inside.server c.self.inside.seats.items c.self.inside.steps c.args.client c.index_mut-seat.result.now here

pub returns-in_default-clause-refused : goal.returns-in_default-clause-refused
returns-in_default-clause-refused g c =
    let here = receiver c.self.inside.server c.self.inside.seats.items c.self.inside.steps c.args.client c.index_mut-seat.result.now c.args.self.now c.self.invariant c.self.view_is c.requires.ready c.index_mut-seat.ensures.value in
    receiver_empty c.self.inside.server c.self.inside.seats.items c.self.inside.steps c.args.client c.index_mut-seat.result.now c.args.self.now here c.self.view_is (sym c.in_default.ensures)

pub returns-then-maker-client-clause-refused : goal.returns-then-maker-client-clause-refused
returns-then-maker-client-clause-refused g c =
    let here = receiver c.self.inside.server c.self.inside.seats.items c.self.inside.steps c.args.client c.index_mut-seat.result.now c.args.self.now c.self.invariant c.self.view_is c.requires.ready c.index_mut-seat.ensures.value in
    receiver_wrong c.self.inside.server c.self.inside.seats.items c.self.inside.steps c.args.client c.index_mut-seat.result.now c.in-Some.entry.now c.args.self.now here (sym c.in-Some.ensures) (search rules) c.self.view_is

pub deliver-requires : goal.deliver-requires
deliver-requires g c =
    let here = receiver c.self.inside.server c.self.inside.seats.items c.self.inside.steps c.args.client c.index_mut-seat.result.now c.args.self.now c.self.invariant c.self.view_is c.requires.ready c.index_mut-seat.ensures.value in
    rw c.operation.ensures
    (record {
      may = receiver_may c.self.inside.server c.self.inside.seats.items c.self.inside.steps c.args.client c.index_mut-seat.result.now c.in-Some.entry.now here (sym c.in-Some.ensures) (search rules);
      common = common_is c.self.inside.server c.self.inside.seats.items c.self.inside.steps c.args.client c.index_mut-seat.result.now c.in-Some.entry.now c.args.self.now c.args.common.now
          c.self.view_is here.at (sym c.in-Some.ensures) c.requires.common;
    })

pub returns-in_err-before-clause-refused : goal.returns-in_err-before-clause-refused
returns-in_err-before-clause-refused g c =
    let here = receiver c.self.inside.server c.self.inside.seats.items c.self.inside.steps c.args.client c.index_mut-seat.result.now c.args.self.now c.self.invariant c.self.view_is c.requires.ready c.index_mut-seat.ensures.value in
    wanting c.from_residual.result _ c.from_residual.ensures.1
    (receiver_performs c.self.inside.server c.self.inside.seats.items c.self.inside.steps c.args.client c.index_mut-seat.result.now c.in-Some.entry.now c.args.self.now here (sym c.in-Some.ensures) (search rules) c.self.view_is)

pub invariant_of-self-2 : goal.invariant_of-self-2
invariant_of-self-2 g c =
    let here = receiver c.self.inside.server c.self.inside.seats.items c.self.inside.steps c.args.client c.index_mut-seat.result.now c.args.self.now c.self.invariant c.self.view_is c.requires.ready c.index_mut-seat.ensures.value in
    (receiver_done c.self.inside.server c.self.inside.seats.items c.self.inside.steps c.args.client c.index_mut-seat.result.now c.deliver.new.seat c.in-Some.entry.now here
    (sym c.in-Some.ensures) (search (rules, c.maker.ensures, c.if-maker-client.false)) (c.in_ok-before.ensures.ok ∙ ap (delivered (client_of c.index_mut-seat.result.now)) c.operation.ensures) c.in_ok-before.ensures.down).kept

pub returns-clause-effect : goal.returns-clause-effect
returns-clause-effect g c =
    let here = receiver c.self.inside.server c.self.inside.seats.items c.self.inside.steps c.args.client c.index_mut-seat.result.now c.args.self.now c.self.invariant c.self.view_is c.requires.ready c.index_mut-seat.ensures.value in
    rw c.undone_by-effect.ensures
    (did _ _ (Deliver c.args.client) _ _ _
    (of_value _ _ (Deliver c.args.client) _ c.self.view_is
    (receiver_done c.self.inside.server c.self.inside.seats.items c.self.inside.steps c.args.client c.index_mut-seat.result.now c.deliver.new.seat c.in-Some.entry.now here
    (sym c.in-Some.ensures) (search (rules, c.maker.ensures, c.if-maker-client.false)) (c.in_ok-before.ensures.ok ∙ ap (delivered (client_of c.index_mut-seat.result.now)) c.operation.ensures) c.in_ok-before.ensures.down).row) refl refl
    (applied_is c.self.inside.server c.self.inside.seats.items c.self.inside.steps c.args.client c.index_mut-seat.result.now c.in-Some.entry.now c.args.self.now (state_from c.self.inside.server (set c.self.inside.seats.items c.args.client c.deliver.new.seat) (c.self.inside.steps + 1)) c.in_ok-before.applied here c.self.view_is (sym c.in-Some.ensures) (search (rules, c.maker.ensures, c.if-maker-client.false)) refl (rw c.operation.ensures at c.in_ok-before.ensures.applied)))

pub returns-clause-undo : goal.returns-clause-undo
returns-clause-undo g c = λ yes.
    let here = receiver c.self.inside.server c.self.inside.seats.items c.self.inside.steps c.args.client c.index_mut-seat.result.now c.args.self.now c.self.invariant c.self.view_is c.requires.ready c.index_mut-seat.ensures.value in
    rw (c.undone_by-effect.ensures, c.of.ensures.kept yes)
    (client_record c.self.inside.server c.self.inside.seats.items c.self.inside.steps c.args.client c.index_mut-seat.result.now c.deliver.new.seat c.in_ok-before.before c.args.self.now c.self.invariant here.at c.self.view_is (c.in_ok-before.ensures.kept yes))
