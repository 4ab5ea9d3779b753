use Rattle.std.proofs.Common.{◌≡◌, ◌+◌, ◌≤◌, length, take}
use Rattle.std.specs.Prelude.{sum_by}
use Rattle.ot_every.specs.Due.{due_of, joined}
use Rattle.ot_every.proofs.due.may_end.Given as goal

abbrev pub invariant-loop-client : goal.invariant-loop-client
invariant-loop-client l = record {
  sum : l.least ≡ l.edits + sum_by (due_of (joined l.machine) (length l.machine.log)) (take l.client l.machine.clients);
  within : l.least ≤ l.room;
}
