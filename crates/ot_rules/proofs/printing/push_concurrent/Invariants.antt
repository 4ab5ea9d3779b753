use Rattle.std.proofs.Common.{◌≡◌, ◌++◌, drop}
use Rattle.ot_rules.specs.Text.{given_concurrent, given_values}
use Rattle.ot_rules.proofs.printing.push_concurrent.Given as goal

abbrev pub invariant-loop-op : goal.invariant-loop-op
invariant-loop-op l = given_values l.given.items ++ given_concurrent (drop l.op-index l.operations) ≡ given_values l.fn.given.items ++ given_concurrent l.operations
