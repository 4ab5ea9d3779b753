use Rattle.ot_text.proofs.Parts.{parts_of, is_operation}
use Rattle.ot_text.proofs.TextOp.codes.Goals as goal

pub returns-clause-value : goal.returns-clause-value
returns-clause-value g c = (parts_of c.self.inside.codes c.self.inside.text c.args.self.now c.self.invariant c.self.view_is).codes_are

pub returns-clause-operation : goal.returns-clause-operation
returns-clause-operation g c = is_operation (parts_of c.self.inside.codes c.self.inside.text c.args.self.now c.self.invariant c.self.view_is) c.sum.ensures.operation
