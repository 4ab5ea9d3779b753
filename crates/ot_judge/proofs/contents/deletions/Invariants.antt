use Rattle.std.proofs.Common.{◌≡◌}
use Rattle.std.specs.HashSet.{contains as set_contains}
use Rattle.ot_isa.specs.declared.elements.Tag.{Tag}
use Rattle.ot_model.specs.Trace.{contains, same_tag}
use Rattle.ot_judge.specs.Views.{views}
use Rattle.ot_judge.proofs.Known.{from_first}
use Rattle.ot_judge.proofs.contents.deletions.Given as goal

abbrev pub invariant-loop-d : goal.invariant-loop-d
invariant-loop-d l = (q : Tag) → set_contains same_tag l.set q ≡ contains (from_first (views l.events) l.e (λ x. x.deleted) l.d) q
