use Rattle.std.proofs.Common.{◌≡◌, ◌++◌, map}
use Rattle.ot_operation.specs.Run.{normal_runs}
use Rattle.ot_text.specs.Components.{run_of_list}
use Rattle.ot_text.proofs.TextOp.to_components.Given as goal

abbrev pub invariant-loop-component : goal.invariant-loop-component
invariant-loop-component g l = map run_of_list l.list.items ++ l.component-iterator ≡ normal_runs l.self
