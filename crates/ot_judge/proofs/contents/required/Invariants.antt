use Rattle.std.proofs.Common.{◌≡◌, ◌++◌, not}
use Rattle.std.specs.Prelude.{filter}
use Rattle.std.specs.HashSet.{contains as set_contains}
use Rattle.ot_model.specs.Trace.{same_tag, inserted_tags}
use Rattle.ot_judge.specs.Views.{views}
use Rattle.ot_judge.proofs.Known.{from_first}
use Rattle.ot_judge.proofs.contents.required.Given as goal

abbrev pub invariant-loop-d : goal.invariant-loop-d
invariant-loop-d l = l.kept.items ≡ filter (λ a. not (set_contains same_tag l.gone a)) (l.start ++ from_first (views l.events) l.e inserted_tags l.d)
