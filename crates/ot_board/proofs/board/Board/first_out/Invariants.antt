use Rattle.std.proofs.Common.{◌≡◌, ℕ, ◌<◌, Some, true}
use Rattle.std.specs.Prelude.{slice_get}
use Rattle.ot_board.proofs.board.Board.first_out.Given as goal

abbrev pub invariant-loop-client : goal.invariant-loop-client
invariant-loop-client l = (d : ℕ) → d < l.client → slice_get l.self.out d ≡ Some true → ⊥
