use Rattle.std.proofs.Common.{◌≡◌, take}
use Rattle.std.specs.HashSet.{contains as set_contains}
use Rattle.ot_isa.specs.declared.elements.Tag.{Tag}
use Rattle.ot_model.specs.Trace.{contains, same_tag}
use Rattle.ot_check.proofs.event.set_of.Given as goal

abbrev pub invariant-loop-tag : goal.invariant-loop-tag
invariant-loop-tag l = (q : Tag) → set_contains same_tag l.set q ≡ contains (take l.tag-index l.list) q
