use Rattle.ot_model.specs.Runs.{IsStateAt}
use Rattle.ot_machine.proofs.running.run_on.Given as goal

abbrev pub invariant-loop-place : goal.invariant-loop-place
invariant-loop-place l = IsStateAt l.schedule l.place l.machine
