use Rattle.ot_machine.proofs.Reverting.{join_undone}
use Rattle.ot_machine.proofs.machine.Machine.undo_join.Goals as goal

pub invariant_of-self : goal.invariant_of-self
invariant_of-self c =
    (join_undone c.self.inside.server c.self.inside.seats.items c.self.inside.steps c.args.client c.in_ok-vacant.vacant c.requires.0 c.args.self.now c.self.invariant c.self.view_is c.requires.1 c.in_ok-vacant.ensures).kept

pub returns-clause-ok : goal.returns-clause-ok
returns-clause-ok c = λ earlier is.
    (join_undone c.self.inside.server c.self.inside.seats.items c.self.inside.steps c.args.client c.in_ok-vacant.vacant earlier c.args.self.now c.self.invariant c.self.view_is is c.in_ok-vacant.ensures).state
