use Rattle.std.proofs.Common.{◌≡◌, map, take}
use Rattle.ot_judge.specs.Views.{views}
use Rattle.ot_model.specs.WeakList.{lists}
use Rattle.ot_judge.proofs.decide.lists_of.Given as goal

abbrev pub invariant-loop-x : goal.invariant-loop-x
invariant-loop-x l = map (λ w. w.items) l.all.items ≡ lists (views (take l.x-index l.events))
