use Rattle.std.proofs.Common.{◌∙◌, arith}
use Rattle.ot_codes.proofs.Counting.{count_is, count_small}
use Rattle.ot_codes.proofs.codes.Codes.count.Goals as goal

pub returns-clause-value : goal.returns-clause-value
returns-clause-value c = c.count.ensures ∙ count_is c.self.inside.list c.args.self.now c.self.invariant.normal c.self.view_is

pub returns-clause-small : goal.returns-clause-small
returns-clause-small c = omega (arith, c.count.ensures, count_small c.self.inside.list c.self.inside.sum c.self.invariant)
