use Rattle.std.proofs.Common.{take}
use Rattle.std.specs.HashSet.{contains as set_contains}
use Rattle.ot_isa.specs.declared.elements.Tag.{Tag}
use Rattle.ot_model.specs.Trace.{same_tag}
use Rattle.ot_judge.specs.Turns.{StandsOnce}
use Rattle.ot_judge.proofs.confirm.set_of.Given as goal

abbrev pub invariant-loop-a : goal.invariant-loop-a
invariant-loop-a l = (q : Tag) → StandsOnce (take l.a-index l.list) q (set_contains same_tag l.set q)
