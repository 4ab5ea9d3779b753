use Rattle.std.proofs.Common.{◌≡◌, length}
use Rattle.ot_operation.specs.Run.{IsNormal}
use Rattle.ot_operation.specs.Steps.{with_runs}
use Rattle.ot_codes.specs.Codes.{runs_of, sum_of}
use Rattle.ot_codes.proofs.codes.Codes.append_blocks.Given as goal

abbrev pub invariant-blocks-2 : goal.invariant-blocks-2
invariant-blocks-2 l =
    (with_runs l.self (runs_of l.more) ≡ with_runs l.fn.self (runs_of l.codes)) × IsNormal (runs_of l.more) × (l.total ≡ sum_of l.more)

abbrev pub decreases-blocks-2 : goal.decreases-blocks-2
decreases-blocks-2 l = length l.more
