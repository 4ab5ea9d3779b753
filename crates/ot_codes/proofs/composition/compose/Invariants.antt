use Rattle.std.proofs.Common.{◌+◌}
use Rattle.ot_codes.specs.Codes.{total_of}
use Rattle.ot_codes.proofs.Splicing.{Spliced}
use Rattle.ot_codes.proofs.composition.compose.Given as goal

abbrev pub invariant-parts : goal.invariant-parts
invariant-parts l = Spliced l.initial.at_a l.initial.at_b l.pen l.splice l.at_a l.at_b

abbrev pub decreases-parts : goal.decreases-parts
decreases-parts l = total_of l.at_a + total_of l.at_b
