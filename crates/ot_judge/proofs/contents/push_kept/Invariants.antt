use Rattle.std.proofs.Common.{◌≡◌, ◌++◌, take, not}
use Rattle.std.specs.Prelude.{filter}
use Rattle.std.specs.HashSet.{contains as set_contains}
use Rattle.ot_model.specs.Trace.{same_tag}
use Rattle.ot_judge.proofs.contents.push_kept.Given as goal

abbrev pub invariant-loop-a : goal.invariant-loop-a
invariant-loop-a l = l.kept.items ≡ l.fn.kept.items ++ filter (λ a. not (set_contains same_tag l.gone a)) (take l.a-index l.tags)
