use Rattle.ot_threads.proofs.Followed.{IsFollowed}
use Rattle.ot_threads.proofs.following.follows.Given as goal

abbrev pub invariant-loop-place : goal.invariant-loop-place
invariant-loop-place l = IsFollowed l.plan l.schedule l.place l.machine l.counts.items
