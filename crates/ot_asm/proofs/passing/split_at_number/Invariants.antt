use Rattle.std.proofs.Common.{length}
use Rattle.ot_asm.specs.Passed.{PassesOver}
use Rattle.ot_asm.specs.declared.place.Place.TheVariants.{Apart}
use Rattle.ot_asm.proofs.passing.split_at_number.Given as goal

abbrev pub invariant-loop-client : goal.invariant-loop-client
invariant-loop-client l = PassesOver Apart l.text l.place l.rest

abbrev pub decreases-loop-client : goal.decreases-loop-client
decreases-loop-client l = length l.rest
