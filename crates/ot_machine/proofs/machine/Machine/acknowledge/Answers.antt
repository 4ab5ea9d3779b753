use Rattle.std.proofs.Common.{◌∙◌, ap, refl, rules, sym}
use Rattle.ot_model.specs.Table.{Client}
use Rattle.ot_isa.specs.declared.instruction.Instr.TheVariants.{Acknowledge}
use Rattle.ot_machine.specs.Effects.{has_buffer}
use Rattle.ot_machine.proofs.RowLaws.{of_value, wanting}
use Rattle.ot_machine.proofs.Delivering.{receiver_queue}
use Rattle.ot_machine.proofs.Acknowledging.{acknowledge_empty, acknowledge_wrong, acknowledge_may, acknowledge_performs, acknowledge_done}
use Rattle.ot_machine.proofs.Effects.{client_is, did, receiver}
use Rattle.ot_machine.proofs.Keeping.{client_record}
use Rattle.ot_machine.proofs.machine.Machine.acknowledge.Goals as goal

pub head-requires : goal.head-requires
head-requires g c =
    let here = receiver c.self.inside.server c.self.inside.seats.items c.self.inside.steps c.args.client c.index_mut-seat.result.now c.args.self.now c.self.invariant c.self.view_is c.requires c.index_mut-seat.ensures.value in
    receiver_queue c.self.inside.server c.self.inside.seats.items c.self.inside.steps c.args.client c.index_mut-seat.result.now here

pub returns-in_default-clause-refused : goal.returns-in_default-clause-refused
returns-in_default-clause-refused g c =
    let here = receiver c.self.inside.server c.self.inside.seats.items c.self.inside.steps c.args.client c.index_mut-seat.result.now c.args.self.now c.self.invariant c.self.view_is c.requires c.index_mut-seat.ensures.value in
    acknowledge_empty c.self.inside.server c.self.inside.seats.items c.self.inside.steps c.args.client c.index_mut-seat.result.now c.args.self.now here c.self.view_is (sym c.in_default.ensures)

pub returns-then-maker-client-clause-refused : goal.returns-then-maker-client-clause-refused
returns-then-maker-client-clause-refused g c =
    let here = receiver c.self.inside.server c.self.inside.seats.items c.self.inside.steps c.args.client c.index_mut-seat.result.now c.args.self.now c.self.invariant c.self.view_is c.requires c.index_mut-seat.ensures.value in
    acknowledge_wrong c.self.inside.server c.self.inside.seats.items c.self.inside.steps c.args.client c.index_mut-seat.result.now c.in-Some.entry.now c.args.self.now here (sym c.in-Some.ensures) (search rules) c.self.view_is

pub acknowledge-requires : goal.acknowledge-requires
acknowledge-requires g c =
    let here = receiver c.self.inside.server c.self.inside.seats.items c.self.inside.steps c.args.client c.index_mut-seat.result.now c.args.self.now c.self.invariant c.self.view_is c.requires c.index_mut-seat.ensures.value in
    record { may = acknowledge_may c.self.inside.server c.self.inside.seats.items c.self.inside.steps c.args.client c.index_mut-seat.result.now c.in-Some.entry.now here (sym c.in-Some.ensures) (search rules) }

pub returns-in_err-before-clause-refused : goal.returns-in_err-before-clause-refused
returns-in_err-before-clause-refused g c =
    let here = receiver c.self.inside.server c.self.inside.seats.items c.self.inside.steps c.args.client c.index_mut-seat.result.now c.args.self.now c.self.invariant c.self.view_is c.requires c.index_mut-seat.ensures.value in
    wanting c.from_residual.result _ c.from_residual.ensures.1
    (acknowledge_performs c.self.inside.server c.self.inside.seats.items c.self.inside.steps c.args.client c.index_mut-seat.result.now c.in-Some.entry.now c.args.self.now here (sym c.in-Some.ensures) (search rules) c.self.view_is)

pub invariant_of-self-2 : goal.invariant_of-self-2
invariant_of-self-2 g c =
    let here = receiver c.self.inside.server c.self.inside.seats.items c.self.inside.steps c.args.client c.index_mut-seat.result.now c.args.self.now c.self.invariant c.self.view_is c.requires c.index_mut-seat.ensures.value in
    (acknowledge_done c.self.inside.server c.self.inside.seats.items c.self.inside.steps c.args.client c.index_mut-seat.result.now c.acknowledge.new.seat c.in-Some.entry.now here
    (sym c.in-Some.ensures) (search (rules, c.maker.ensures, c.if-maker-client.false)) c.in_ok-before.ensures.ok c.in_ok-before.ensures.down).kept

pub returns-clause-effect : goal.returns-clause-effect
returns-clause-effect g c =
    let here = receiver c.self.inside.server c.self.inside.seats.items c.self.inside.steps c.args.client c.index_mut-seat.result.now c.args.self.now c.self.invariant c.self.view_is c.requires c.index_mut-seat.ensures.value in
    rw c.undone_by-effect.ensures
    (did _ _ (Acknowledge c.args.client) _ _ _
    (of_value _ _ (Acknowledge c.args.client) _ c.self.view_is
    (acknowledge_done c.self.inside.server c.self.inside.seats.items c.self.inside.steps c.args.client c.index_mut-seat.result.now c.acknowledge.new.seat c.in-Some.entry.now here
    (sym c.in-Some.ensures) (search (rules, c.maker.ensures, c.if-maker-client.false)) c.in_ok-before.ensures.ok c.in_ok-before.ensures.down).row) refl
    (c.has_buffer-sent.ensures ∙ ap (λ (x : Client). has_buffer x.phase) (sym (client_is c.self.inside.server c.self.inside.seats.items c.self.inside.steps c.args.client c.index_mut-seat.result.now c.args.self.now c.self.view_is here.at))) refl)

pub returns-clause-undo : goal.returns-clause-undo
returns-clause-undo g c = λ yes.
    let here = receiver c.self.inside.server c.self.inside.seats.items c.self.inside.steps c.args.client c.index_mut-seat.result.now c.args.self.now c.self.invariant c.self.view_is c.requires c.index_mut-seat.ensures.value in
    rw (c.undone_by-effect.ensures, c.of.ensures.kept yes)
    (client_record c.self.inside.server c.self.inside.seats.items c.self.inside.steps c.args.client c.index_mut-seat.result.now c.acknowledge.new.seat c.in_ok-before.before c.args.self.now c.self.invariant here.at c.self.view_is c.in_ok-before.ensures.kept)
