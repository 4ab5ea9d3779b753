use Rattle.std.proofs.Common.{◌≡◌, ◌≤◌, ◌-◌, length, drop}
use Rattle.ot_faults.specs.Causes.{cause_from}
use Rattle.ot_faults.proofs.causes.cause_behind.Given as goal

abbrev pub invariant-loop-at : goal.invariant-loop-at
invariant-loop-at l = record {
  value : cause_from l.is_array l.at l.before (drop l.at l.json) ≡ cause_from l.is_array 1 l.fn.first (drop 1 l.json);
  within : l.at ≤ length l.json;
}

abbrev pub decreases-loop-at : goal.decreases-loop-at
decreases-loop-at l = length l.json - l.at
