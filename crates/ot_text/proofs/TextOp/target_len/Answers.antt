use Rattle.std.proofs.Common.{arith}
use Rattle.ot_text.proofs.Parts.{parts_of, same_target}
use Rattle.ot_text.proofs.TextOp.target_len.Goals as goal

pub returns-clause-value : goal.returns-clause-value
returns-clause-value g c =
    omega (arith, c.target_len.ensures.value, same_target (parts_of c.self.inside.codes c.self.inside.text c.args.self.now c.self.invariant c.self.view_is))
