use Rattle.ot_machine.proofs.Reading.{quiet_is, quiet_one}
use Rattle.ot_machine.proofs.machine.Machine.is_quiet.Goals as goal

pub returns-clause-exact : goal.returns-clause-exact
returns-clause-exact c =
    quiet_is c.self.inside.server c.self.inside.seats.items c.as_slice.result.now c.self.inside.steps c.args.self.now c.are_settled.result c.self.invariant c.self.view_is c.as_slice.ensures.value c.are_settled.ensures

pub returns-clause-converged : goal.returns-clause-converged
returns-clause-converged c = λ yes.
    quiet_one c.self.inside.server c.self.inside.seats.items c.self.inside.steps c.args.self.now c.self.invariant c.self.view_is
    ((quiet_is c.self.inside.server c.self.inside.seats.items c.as_slice.result.now c.self.inside.steps c.args.self.now c.are_settled.result c.self.invariant c.self.view_is c.as_slice.ensures.value c.are_settled.ensures).0 yes)
