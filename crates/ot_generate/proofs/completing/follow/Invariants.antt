use Rattle.ot_generate.specs.Completing.{IsFollowed}
use Rattle.ot_generate.proofs.completing.follow.Given as goal

abbrev pub invariant-loop-place : goal.invariant-loop-place
invariant-loop-place l = IsFollowed l.schedule l.place l.walk
