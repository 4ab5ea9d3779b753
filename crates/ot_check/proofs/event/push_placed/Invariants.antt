use Rattle.std.proofs.Common.{◌≡◌, ◌++◌}
use Rattle.ot_check.specs.Insertions.{placed_run}
use Rattle.ot_check.proofs.event.push_placed.Given as goal

abbrev pub invariant-loop-i : goal.invariant-loop-i
invariant-loop-i l = l.placed.items ≡ l.fn.placed.items ++ placed_run l.origin l.first l.place l.i
