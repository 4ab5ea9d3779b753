use Rattle.std.proofs.Common.{◌≡◌, drop}
use Rattle.ot_rules.specs.Wrong.{turned_over}
use Rattle.ot_rules.proofs.wrong.turned_over.Given as goal

abbrev pub invariant-loop-other : goal.invariant-loop-other
invariant-loop-other l = turned_over l.current (drop l.other-index l.concurrent) ≡ turned_over l.op l.concurrent
