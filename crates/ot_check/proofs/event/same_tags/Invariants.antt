use Rattle.std.proofs.Common.{◌≡◌, take}
use Rattle.ot_check.proofs.event.same_tags.Given as goal

abbrev pub invariant-loop-place : goal.invariant-loop-place
invariant-loop-place l = take l.place l.a ≡ take l.place l.b
