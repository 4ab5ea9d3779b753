use Rattle.std.proofs.Common.{◌<◌, ℕ}
use Rattle.ot_judge.specs.Turns.{IsBacked}
use Rattle.ot_judge.specs.Views.{views}
use Rattle.ot_judge.proofs.visibility.all_backed.Given as goal

abbrev pub invariant-loop-r : goal.invariant-loop-r
invariant-loop-r l = (k : ℕ) → k < l.r → IsBacked (views l.events) l.e k
