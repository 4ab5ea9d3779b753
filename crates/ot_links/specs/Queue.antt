-- A queue of messages, and how many more it takes without growing.
use Rattle.std.specs.Prelude.{ℕ, List}

pub record Queue (M : Type 0) : Type 0 where
  pub items : List M
  pub room : ℕ
