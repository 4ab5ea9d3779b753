use Rattle.std.proofs.Common.{take, ◌≡◌, ◌++◌}
use Rattle.std.specs.List.{flat_map}
use Rattle.ot_model.specs.Trace.{inserted_tags}
use Rattle.ot_judge.specs.Views.{views}
use Rattle.ot_judge.proofs.trace.named_tags.Given as goal

abbrev pub invariant-loop-x : goal.invariant-loop-x
invariant-loop-x l = l.tags.items ≡ l.start ++ flat_map inserted_tags (views (take l.x-index l.events))
