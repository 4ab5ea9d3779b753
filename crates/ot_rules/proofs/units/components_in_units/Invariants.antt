use Rattle.std.proofs.Common.{◌≡◌, ◌≤◌, length}
use Rattle.ot_operation.specs.Operation.{empty}
use Rattle.ot_rules.specs.Units.{units_from}
use Rattle.ot_rules.proofs.units.components_in_units.Given as goal

abbrev pub invariant-loop-component : goal.invariant-loop-component
invariant-loop-component l =
    (units_from l.built l.rest l.component-iterator ≡ units_from empty l.text l.fn.components) × (length l.rest ≤ 1000000)
