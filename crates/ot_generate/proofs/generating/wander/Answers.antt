use Rattle.std.proofs.Common.{rules}
use Rattle.ot_generate.proofs.generating.wander.Goals as goal

pub returns-clause-quiet : goal.returns-clause-quiet
returns-clause-quiet c = c.choose.ensures.quiet (search rules)
