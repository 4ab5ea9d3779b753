use Rattle.std.proofs.Common.{◌≡◌, drop, take}
use Rattle.ot_debug.proofs.changing.repeats.Given as goal

abbrev pub invariant-loop-place : goal.invariant-loop-place
invariant-loop-place l = take l.place (drop l.from l.list) ≡ take l.place (drop l.to l.list)
