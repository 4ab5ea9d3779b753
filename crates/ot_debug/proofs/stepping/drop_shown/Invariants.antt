use Rattle.std.specs.Prelude.{Bool, ◌≤◌}
use Rattle.ot_debug.specs.Stepping.{shown_at, AreLists}
use Rattle.ot_debug.proofs.stepping.drop_shown.Given as goal

abbrev pub invariant-loop-place : goal.invariant-loop-place
invariant-loop-place l = (l.from ≤ l.place) × ((kept : Bool) → AreLists kept (shown_at l.schedule l.to) l.fn.shown.items → AreLists kept (shown_at l.schedule l.place) l.shown.items)
