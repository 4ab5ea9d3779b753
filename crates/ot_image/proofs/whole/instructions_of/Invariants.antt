use Rattle.std.proofs.Common.{◌≡◌, ◌-◌}
use Rattle.ot_image.specs.Fields.{Named, first_refusal, instructions}
use Rattle.ot_image.specs.Reads.{seen}
use Rattle.ot_image.proofs.whole.instructions_of.Given as goal

abbrev pub invariant-loop-instr : goal.invariant-loop-instr
invariant-loop-instr l = (after : Named) → first_refusal (instructions l.version l.clients 0 l.count after) (seen l.spot) ≡ first_refusal (instructions l.version l.clients l.instr (l.count - l.instr) after) (seen l.rest)
