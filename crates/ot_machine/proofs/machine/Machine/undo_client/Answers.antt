use Rattle.std.proofs.Common.{◌≡◌, rules, ◌∙◌, refl}
use Rattle.ot_machine.proofs.Reverting.{client_fits, client_seat, client_undone, client_state, seats_same}
use Rattle.ot_machine.proofs.Taking.{kept_same, state_same}
use Rattle.ot_machine.proofs.machine.Machine.undo_client.Goals as goal

pub revert-requires-clause-list : goal.revert-requires-clause-list
revert-requires-clause-list c =
    client_fits c.self.inside.server c.self.inside.seats.items c.self.inside.steps c.args.client c.index_mut-seat.result.now c.args.before c.requires.0 c.args.self.now
    (client_seat c.self.inside.server c.self.inside.seats.items c.self.inside.steps c.args.client c.index_mut-seat.result.now c.args.before c.requires.0 c.args.self.now c.self.view_is c.requires.1 c.index_mut-seat.ensures.value)
    c.self.view_is c.requires.1

pub revert-requires-clause-state : goal.revert-requires-clause-state
revert-requires-clause-state c =
    client_state c.self.inside.server c.self.inside.seats.items c.self.inside.steps c.args.client c.index_mut-seat.result.now c.args.before c.requires.0 c.args.self.now
    (client_seat c.self.inside.server c.self.inside.seats.items c.self.inside.steps c.args.client c.index_mut-seat.result.now c.args.before c.requires.0 c.args.self.now c.self.view_is c.requires.1 c.index_mut-seat.ensures.value)
    c.self.view_is c.requires.1

pub invariant_of-self : goal.invariant_of-self
invariant_of-self c =
    kept_same c.self.inside.server c.self.inside.server c.self.inside.seats.items _ c.self.inside.steps c.self.invariant refl
    (seats_same c.self.inside.seats.items c.args.client c.index_mut-seat.result.now c.revert.new.seat
    (client_seat c.self.inside.server c.self.inside.seats.items c.self.inside.steps c.args.client c.index_mut-seat.result.now c.args.before c.requires.0 c.args.self.now c.self.view_is c.requires.1 c.index_mut-seat.ensures.value)
    c.in_err-revert.ensures.err)

pub returns-in_err-revert-clause-err : goal.returns-in_err-revert-clause-err
returns-in_err-revert-clause-err c =
    let same : _ ≡ c.args.self.now =
    state_same c.self.inside.server c.self.inside.server c.self.inside.seats.items _ c.self.inside.steps refl
    (seats_same c.self.inside.seats.items c.args.client c.index_mut-seat.result.now c.revert.new.seat
    (client_seat c.self.inside.server c.self.inside.seats.items c.self.inside.steps c.args.client c.index_mut-seat.result.now c.args.before c.requires.0 c.args.self.now c.self.view_is c.requires.1 c.index_mut-seat.ensures.value)
    c.in_err-revert.ensures.err) ∙ c.self.view_is in
    search (rules, same)

pub invariant_of-self-2 : goal.invariant_of-self-2
invariant_of-self-2 c =
    (client_undone c.self.inside.server c.self.inside.seats.items c.self.inside.steps c.args.client c.index_mut-seat.result.now c.revert.new.seat c.args.before c.requires.0 c.args.self.now c.self.invariant
    (client_seat c.self.inside.server c.self.inside.seats.items c.self.inside.steps c.args.client c.index_mut-seat.result.now c.args.before c.requires.0 c.args.self.now c.self.view_is c.requires.1 c.index_mut-seat.ensures.value)
    c.self.view_is c.requires.1 c.in_ok-revert.ensures.ok c.in_ok-revert.ensures.down).kept

pub returns-clause-ok : goal.returns-clause-ok
returns-clause-ok c = λ earlier is.
    (client_undone c.self.inside.server c.self.inside.seats.items c.self.inside.steps c.args.client c.index_mut-seat.result.now c.revert.new.seat c.args.before earlier c.args.self.now c.self.invariant
    (client_seat c.self.inside.server c.self.inside.seats.items c.self.inside.steps c.args.client c.index_mut-seat.result.now c.args.before earlier c.args.self.now c.self.view_is is c.index_mut-seat.ensures.value)
    c.self.view_is is c.in_ok-revert.ensures.ok c.in_ok-revert.ensures.down).state
