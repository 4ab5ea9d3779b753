use Rattle.std.proofs.Common.{◌≡◌, take, ◌^◌, ◌-◌, min}
use Rattle.ot_judge.specs.Making.{entries}
use Rattle.ot_judge.specs.Views.{views}
use Rattle.ot_judge.proofs.trace.entries.Given as goal

abbrev pub invariant-loop-x : goal.invariant-loop-x
invariant-loop-x l = l.count ≡ min (entries (views (take l.x-index l.events))) (2 ^ 64 - 1)
