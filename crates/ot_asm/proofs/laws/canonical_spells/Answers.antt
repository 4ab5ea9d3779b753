use Rattle.ot_asm.proofs.CanonicalSpelled.{canonical_spelled}
use Rattle.ot_asm.proofs.laws.canonical_spells.Goals as goal

pub returns : goal.returns
returns c = canonical_spelled
