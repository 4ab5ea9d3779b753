use Rattle.std.proofs.Common.{◌≡◌, ◌+◌, ◌≤◌, drop}
use Rattle.ot_server.specs.Faults.{inserted_in}
use Rattle.ot_server.proofs.later.has_room.Given as goal

abbrev pub invariant-loop-entry : goal.invariant-loop-entry
invariant-loop-entry g l = (l.total + inserted_in (drop l.entry-index l.entries) ≡ l.length + inserted_in l.entries) × (l.total ≤ 1000000)
