use Rattle.std.proofs.Common.{◌<◌, ℕ, map}
use Rattle.ot_model.specs.WeakList.{nth}
use Rattle.ot_model.specs.TraceLaws.{AgreeInOrder}
use Rattle.ot_judge.proofs.order.compare_later.Given as goal

abbrev pub invariant-loop-e : goal.invariant-loop-e
invariant-loop-e l = (e : ℕ) → l.d < e → e < l.e → AgreeInOrder (nth (map (λ v. v.items) l.lists) l.d) (nth (map (λ v. v.items) l.lists) e)
