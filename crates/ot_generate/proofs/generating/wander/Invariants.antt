use Rattle.std.proofs.Common.{◌-◌, length}
use Rattle.ot_generate.specs.Walks.{IsAlong}
use Rattle.ot_generate.proofs.generating.wander.Given as goal

abbrev pub invariant-loop-next : goal.invariant-loop-next
invariant-loop-next l = IsAlong l.initial.walk l.walk

abbrev pub decreases-loop-next : goal.decreases-loop-next
decreases-loop-next l = l.walk.room - length l.walk.recorded.instrs
