use Rattle.std.proofs.Common.{◌≡◌, ◌<◌, ℕ, Some, false}
use Rattle.std.specs.Prelude.{slice_get}
use Rattle.ot_model.specs.Table.{Client}
use Rattle.ot_verdict.specs.First.{buffers}
use Rattle.ot_verdict.proofs.choosing.first_buffer.Given as goal

abbrev pub invariant-loop-client : goal.invariant-loop-client
invariant-loop-client l = (k : ℕ) (x : Client) → k < l.client → slice_get l.machine.clients k ≡ Some x → buffers x ≡ false
