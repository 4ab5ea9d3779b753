use Rattle.std.proofs.Common.{◌≡◌, take}
use Rattle.std.specs.Prelude.{nat_lt}
use Rattle.std.specs.HashSet.{contains as set_contains}
use Rattle.ot_isa.specs.declared.elements.Tag.{Tag}
use Rattle.ot_model.specs.Trace.{contains, occurrences, same_tag}
use Rattle.ot_judge.proofs.contents.repeated.Given as goal

abbrev pub invariant-loop-a : goal.invariant-loop-a
invariant-loop-a l = record {
  seen : (q : Tag) → set_contains same_tag l.seen q ≡ contains (take l.a-index l.list) q;
  again : (q : Tag) → set_contains same_tag l.again q ≡ nat_lt 1 (occurrences q (take l.a-index l.list));
}
