use Rattle.ot_operation.specs.Operation.{apply}
use Rattle.ot_debug.proofs.Compared.{IsSame}
use Rattle.ot_debug.proofs.changing.changes.Given as goal

abbrev pub invariant-loop-component : goal.invariant-loop-component
invariant-loop-component l = IsSame l.component-iterator l.list l.from l.to (apply l.op l.list)
