use Rattle.std.proofs.Common.{◌≡◌, drop}
use Rattle.ot_machine.proofs.part.drop_first.Given as goal

abbrev pub invariant-loop-place : goal.invariant-loop-place
invariant-loop-place l = l.down.items ≡ drop l._place l.fn.down.items
