use Rattle.std.proofs.Common.{◌≡◌, ◌++◌, map}
use Rattle.std.specs.List.{All}
use Rattle.serde_json.specs.View.{view}
use Rattle.ot_operation.specs.Run.{normal_runs}
use Rattle.ot_json.specs.Writing.{data_of, IsCounted, HasScalars}
use Rattle.ot_json.proofs.writing.write_op.Given as goal

abbrev pub invariant-loop-component : goal.invariant-loop-component
invariant-loop-component l = record {
  values : map view l.items.items ++ map data_of l.component-iterator ≡ map data_of (normal_runs l.op);
  counted : All IsCounted l.component-iterator;
  scalars : All HasScalars l.component-iterator → All HasScalars (normal_runs l.op);
}
