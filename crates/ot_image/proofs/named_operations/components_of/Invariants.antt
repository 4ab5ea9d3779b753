use Rattle.std.proofs.Common.{◌≡◌, ◌-◌}
use Rattle.ot_image.specs.Fields.{Named, components, first_refusal, no_shape}
use Rattle.ot_image.specs.Reads.{IsWithin, seen}
use Rattle.ot_image.proofs.named_operations.components_of.Given as goal

abbrev pub invariant-loop-k : goal.invariant-loop-k
invariant-loop-k l = record {
  read : (after : Named) → first_refusal (components l.instr 0 l.count no_shape after) (seen l.spot) ≡ first_refusal (components l.instr l.k (l.count - l.k) l.shape after) (seen l.rest);
  within : IsWithin l.shape;
}
