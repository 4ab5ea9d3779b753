use Rattle.std.proofs.Common.{◌≡◌, ◌≤◌, take}
use Rattle.std.specs.Prelude.{count_by}
use Rattle.ot_model.specs.Table.{is_joined}
use Rattle.ot_every.proofs.due.joined.Given as goal

abbrev pub invariant-loop-client : goal.invariant-loop-client
invariant-loop-client l = record {
  sum : l.count ≡ count_by (λ x. is_joined x.phase) (take l.client l.machine.clients);
  few : l.count ≤ l.client;
}
