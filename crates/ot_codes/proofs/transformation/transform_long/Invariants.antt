use Rattle.std.proofs.Common.{◌+◌, ◌≡◌}
use Rattle.std.specs.Prelude.{IsTrue}
use Rattle.ot_operation.specs.Operation.{Operation}
use Rattle.ot_operation.proofs.TransformProgress.{Progress}
use Rattle.ot_codes.specs.Codes.{runs_of, total_of}
use Rattle.ot_codes.proofs.transformation.transform_long.Given as goal

abbrev pub invariant-parts : goal.invariant-parts
invariant-parts l = (second : Operation (Unit {0})) × Progress l.a l.b l.first second (runs_of l.at_a) (runs_of l.at_b) × (IsTrue l.wanted → second ≡ l.second)

abbrev pub decreases-parts : goal.decreases-parts
decreases-parts l = total_of l.at_a + total_of l.at_b
