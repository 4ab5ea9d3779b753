use Rattle.ot_check.proofs.Followed.{IsCome}
use Rattle.ot_check.proofs.traced.follow_schedule.Given as goal

abbrev pub invariant-loop-place : goal.invariant-loop-place
invariant-loop-place l = IsCome l.schedule l.place l.tracer
