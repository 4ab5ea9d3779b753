use Rattle.std.proofs.Common.{◌≡◌, ◌-◌}
use Rattle.ot_image.specs.Fields.{Named, characters, first_refusal}
use Rattle.ot_image.specs.Reads.{seen}
use Rattle.ot_image.proofs.named_operations.characters_of.Given as goal

abbrev pub invariant-loop-k : goal.invariant-loop-k
invariant-loop-k l = (after : Named) → first_refusal (characters l.text 0 l.count after) (seen l.spot) ≡ first_refusal (characters l.text l.k (l.count - l.k) after) (seen l.rest)
