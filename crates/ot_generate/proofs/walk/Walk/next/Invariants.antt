use Rattle.std.proofs.Common.{◌≡◌, ◌<◌, ℕ, Some, None}
use Rattle.std.specs.Prelude.{slice_get}
use Rattle.ot_model.specs.Table.{Client}
use Rattle.ot_generate.specs.Completed.{first_of, receipt_next, take_next}
use Rattle.ot_generate.proofs.walk.Walk.next.Given as goal

abbrev pub invariant-loop-client : goal.invariant-loop-client
invariant-loop-client l = (k : ℕ) (x : Client) → k < l.client → slice_get l.self.state.clients k ≡ Some x → take_next k x ≡ None

abbrev pub invariant-loop-client-2 : goal.invariant-loop-client-2
invariant-loop-client-2 l =
    (first_of take_next 0 l.self.state.clients ≡ None)
    × ((k : ℕ) (x : Client) → k < l.client → slice_get l.self.state.clients k ≡ Some x → receipt_next l.self.state k x ≡ None)
