use Rattle.std.proofs.Common.{◌≡◌, length, take}
use Rattle.std.specs.Prelude.{sum_by}
use Rattle.ot_generate.specs.Left.{work}
use Rattle.ot_generate.proofs.walk.left.Given as goal

abbrev pub invariant-loop-client : goal.invariant-loop-client
invariant-loop-client l = l.left ≡ sum_by (work (length l.machine.clients) (length l.machine.log)) (take l.client l.machine.clients)
