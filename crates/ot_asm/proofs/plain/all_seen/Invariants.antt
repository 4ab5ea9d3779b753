use Rattle.std.proofs.Common.{◌≡◌, length}
use Rattle.ot_asm.specs.Plain.{all_seen}
use Rattle.ot_asm.proofs.plain.all_seen.Given as goal

abbrev pub invariant-loop-letter : goal.invariant-loop-letter
invariant-loop-letter l = all_seen l.rest ≡ all_seen l.letters

abbrev pub decreases-loop-letter : goal.decreases-loop-letter
decreases-loop-letter l = length l.rest
