use Rattle.std.proofs.Common.{◌≡◌, take, drop, []}
use Rattle.std.specs.HashSet.{contains as set_contains}
use Rattle.ot_isa.specs.declared.elements.Tag.{Tag}
use Rattle.ot_model.specs.Trace.{contains, same_tag}
use Rattle.ot_judge.specs.Making.{first_again}
use Rattle.ot_judge.proofs.trace.first_again.Given as goal

abbrev pub invariant-loop-a : goal.invariant-loop-a
invariant-loop-a l = record {
  same : (q : Tag) → set_contains same_tag l.set q ≡ contains (take l.a-index l.tags) q;
  left : first_again [] l.tags ≡ first_again (take l.a-index l.tags) (drop l.a-index l.tags);
}
