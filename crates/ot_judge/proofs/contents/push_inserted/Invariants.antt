use Rattle.std.proofs.Common.{◌≡◌, ◌++◌, take, not, map}
use Rattle.std.specs.Prelude.{filter}
use Rattle.std.specs.HashSet.{contains as set_contains}
use Rattle.ot_model.specs.declared.trace.Placed.{Placed}
use Rattle.ot_model.specs.Trace.{same_tag}
use Rattle.ot_judge.proofs.contents.push_inserted.Given as goal

abbrev pub invariant-loop-p : goal.invariant-loop-p
invariant-loop-p l = l.kept.items ≡ l.fn.kept.items ++ filter (λ a. not (set_contains same_tag l.gone a)) (map (λ (p : Placed). p.tag) (take l.p-index l.inserted))
