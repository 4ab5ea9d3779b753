use Rattle.std.proofs.Common.{◌≡◌}
use Rattle.std.specs.Prelude.{map, vec_items}
use Rattle.ot_threads.specs.Concluded.{receipts_of}
use Rattle.ot_threads.proofs.concluding.receipts_of.Given as goal

abbrev pub invariant-loop-end : goal.invariant-loop-end
invariant-loop-end l = map vec_items l.receipts.items ≡ receipts_of l.yielded
