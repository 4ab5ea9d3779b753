use Rattle.std.proofs.Common.{◌<◌, ℕ}
use Rattle.ot_judge.specs.Views.{views}
use Rattle.ot_model.specs.WeakList.{EventHolds}
use Rattle.ot_judge.proofs.decide.judge.Given as goal

abbrev pub invariant-loop-e : goal.invariant-loop-e
invariant-loop-e l = (d : ℕ) → d < l.e → EventHolds l.start (views l.events) d
