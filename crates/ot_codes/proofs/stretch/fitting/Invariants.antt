use Rattle.std.proofs.Common.{◌-◌, ◌<◌, ◌≤◌, length, get_or}
use Rattle.ot_codes.specs.Codes.{subtracted}
use Rattle.ot_codes.specs.Runs.{measured}
use Rattle.ot_codes.proofs.stretch.fitting.Given as goal

abbrev pub invariant-loop-count : goal.invariant-loop-count
invariant-loop-count l =
    (l.count ≤ l.beyond) × (l.beyond ≤ length l.ends)
    × (0 < l.count → measured l.by (subtracted (get_or l.ends (l.count - 1) l.done).sum l.done.sum) ≤ l.limit)

abbrev pub decreases-loop-count : goal.decreases-loop-count
decreases-loop-count l = l.beyond - l.count
