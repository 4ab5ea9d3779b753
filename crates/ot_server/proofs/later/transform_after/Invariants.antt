use Rattle.ot_server.proofs.Transformed.{IsTransformed}
use Rattle.ot_server.proofs.later.transform_after.Given as goal

abbrev pub invariant-loop-entry : goal.invariant-loop-entry
invariant-loop-entry g l = IsTransformed l.op l.entries l.end l.entry-index l.transformed
