use Rattle.ot_model.specs.Runs.{IsStateAt}
use Rattle.ot_rules.proofs.explaining.machine_at.Given as goal

abbrev pub invariant-loop-number : goal.invariant-loop-number
invariant-loop-number l = IsStateAt l.schedule l.number l.machine
