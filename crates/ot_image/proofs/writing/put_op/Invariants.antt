use Rattle.ot_image.proofs.Written.{IsPut}
use Rattle.ot_image.proofs.writing.put_op.Given as goal

abbrev pub invariant-loop-part : goal.invariant-loop-part
invariant-loop-part l = IsPut l.op l.part-iterator l.initial.out.items l.out.items
