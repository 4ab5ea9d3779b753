use Rattle.std.proofs.Common.{◌≡◌, ◌++◌, drop}
use Rattle.std.specs.Prelude.{map}
use Rattle.ot_rules.specs.Calling.{entry_operation}
use Rattle.ot_rules.proofs.calling.concurrent.Given as goal

abbrev pub invariant-loop-number : goal.invariant-loop-number
invariant-loop-number l =
    l.operations.items ++ map entry_operation (drop l.number l.machine.log) ≡ map entry_operation (drop l.from l.machine.log)
