use Rattle.std.proofs.Common.{◌≡◌, ◌<◌, ℕ, false, None}
use Rattle.std.specs.Prelude.{IfSome}
use Rattle.ot_generate.specs.Walks.{IsAtRest, IsPossible}
use Rattle.ot_generate.proofs.walk.Walk.choose.Given as goal

abbrev pub invariant-loop-client : goal.invariant-loop-client
invariant-loop-client l =
    IfSome l.choice.best (IsPossible l.self) × (l.choice.best ≡ None → l.self.is_open ≡ false → (k : ℕ) → k < l.client → IsAtRest l.self.state k)
