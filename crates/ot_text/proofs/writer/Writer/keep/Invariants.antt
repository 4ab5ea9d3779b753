use Rattle.std.proofs.Common.{◌-◌, ◌≤◌, take}
use Rattle.ot_text.specs.Writing.{left_of, HasWritten}
use Rattle.ot_text.proofs.writer.Writer.keep.Given as goal

abbrev pub invariant-loop-ahead : goal.invariant-loop-ahead
invariant-loop-ahead g l = record {
  written : HasWritten g.T.Item.CAP g.T.Item.total l.old l.initial.self l.self (take (l.count - l.ahead) (left_of l.old l.initial.self)) (l.count - l.ahead);
  within : l.ahead ≤ l.count;
}

abbrev pub decreases-loop-ahead : goal.decreases-loop-ahead
decreases-loop-ahead g l = l.ahead
