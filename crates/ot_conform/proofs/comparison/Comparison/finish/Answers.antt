use Rattle.std.proofs.Common.{[]}
use Rattle.ot_conform.proofs.comparison.Comparison.finish.Goals as goal

pub returns : goal.returns
returns c = let given = rw c.in-Some.is at c.in_ok-verdict.ensures.decided in given []
