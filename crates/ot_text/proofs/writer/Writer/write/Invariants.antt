use Rattle.std.proofs.Common.{◌++◌}
use Rattle.ot_operation.specs.Operation.{apply}
use Rattle.ot_operation.specs.Run.{operation_of}
use Rattle.ot_list.specs.Written.{written}
use Rattle.ot_text.specs.Writing.{left_of}
use Rattle.ot_text.proofs.Writing.{IsOnWay}
use Rattle.ot_text.proofs.writer.Writer.write.Given as goal

abbrev pub invariant-loop-component : goal.invariant-loop-component
invariant-loop-component g l =
    IsOnWay g.T.Item.CAP g.T.Item.total l.old l.self l.component-iterator
    (written l.old l.initial.self.draft ++ apply (operation_of l.initial.component-iterator) (left_of l.old l.initial.self))
