use Rattle.std.proofs.Common.{◌<◌, rules, length}
use Rattle.ot_machine.proofs.Retaking.{history, take_undo, take_quiet, take_back, take_seat, take_there, unsent_there}
use Rattle.ot_machine.proofs.machine.Machine.undo_take.Goals as goal

pub retract-requires : goal.retract-requires
retract-requires c =
    (history c.requires.0, take_undo c.self.inside.server c.self.inside.seats.items c.self.inside.steps c.args.client c.args.message c.args.inverse c.requires.0 c.args.self.now c.self.view_is c.requires.1)

pub push-requires : goal.push-requires
push-requires c =
    take_quiet c.self.inside.server c.self.inside.seats.items c.unsend_all.new.seats.items c.self.inside.steps c.args.client c.index_mut.result.now c.args.message c.args.inverse c.requires.0 c.args.self.now
    c.self.view_is c.requires.1 c.unsend_all.ensures
    (take_seat c.self.inside.server c.self.inside.seats.items c.unsend_all.new.seats.items c.self.inside.steps c.args.client c.index_mut.result.now c.args.message c.args.inverse c.requires.0 c.args.self.now
    c.self.view_is c.requires.1 c.unsend_all.ensures c.index_mut.ensures.value)

pub index_mut-requires : goal.index_mut-requires
index_mut-requires c =
    let there : c.args.client < length c.unsend_all.new.seats.items = unsent_there c.self.inside.seats.items c.unsend_all.new.seats.items c.args.client c.unsend_all.ensures
    (take_there c.self.inside.server c.self.inside.seats.items c.self.inside.steps c.args.client c.args.message c.args.inverse c.requires.0 c.args.self.now c.self.view_is c.requires.1) in
    search (rules, there)

pub invariant_of-self-2 : goal.invariant_of-self-2
invariant_of-self-2 c =
    (take_back c.self.inside.server c.retract.new.self c.self.inside.seats.items c.unsend_all.new.seats.items c.self.inside.steps c.args.client c.index_mut.result.now c.push.new.self c.args.message c.args.inverse c.requires.0 c.args.self.now
    c.self.invariant c.self.view_is c.requires.1
    (c.in_default.ensures.ok (history c.requires.0) (take_undo c.self.inside.server c.self.inside.seats.items c.self.inside.steps c.args.client c.args.message c.args.inverse c.requires.0 c.args.self.now c.self.view_is c.requires.1))
    c.unsend_all.ensures
    (take_seat c.self.inside.server c.self.inside.seats.items c.unsend_all.new.seats.items c.self.inside.steps c.args.client c.index_mut.result.now c.args.message c.args.inverse c.requires.0 c.args.self.now
    c.self.view_is c.requires.1 c.unsend_all.ensures c.index_mut.ensures.value)
    c.push.ensures).kept

pub returns-clause-ok : goal.returns-clause-ok
returns-clause-ok c = λ earlier is.
    (take_back c.self.inside.server c.retract.new.self c.self.inside.seats.items c.unsend_all.new.seats.items c.self.inside.steps c.args.client c.index_mut.result.now c.push.new.self c.args.message c.args.inverse earlier c.args.self.now
    c.self.invariant c.self.view_is is
    (c.in_default.ensures.ok (history earlier) (take_undo c.self.inside.server c.self.inside.seats.items c.self.inside.steps c.args.client c.args.message c.args.inverse earlier c.args.self.now c.self.view_is is))
    c.unsend_all.ensures
    (take_seat c.self.inside.server c.self.inside.seats.items c.unsend_all.new.seats.items c.self.inside.steps c.args.client c.index_mut.result.now c.args.message c.args.inverse earlier c.args.self.now
    c.self.view_is is c.unsend_all.ensures c.index_mut.ensures.value)
    c.push.ensures).state
