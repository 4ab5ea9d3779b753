use Rattle.std.proofs.Common.{take}
use Rattle.std.specs.List.{All}
use Rattle.ot_threads.specs.Concluded.{IsFaultless}
use Rattle.ot_threads.proofs.concluding.first_fault.Given as goal

abbrev pub invariant-loop-end : goal.invariant-loop-end
invariant-loop-end l = All IsFaultless (take l.end-index l.ends)
