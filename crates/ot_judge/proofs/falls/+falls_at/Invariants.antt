use Rattle.std.proofs.Common.{◌-◌}
use Rattle.ot_judge.proofs.falls.+falls_at.Given as goal

abbrev pub decreases-falls_at : goal.decreases-falls_at
decreases-falls_at l = l.to - l.from
