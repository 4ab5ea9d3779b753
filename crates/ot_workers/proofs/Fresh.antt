-- Boards that workers may share.
use Rattle.std.proofs.Common.{◌≡◌, ℕ, zero, suc, ◌<◌, replicate, refl, Some, false, arith}
use Rattle.std.specs.Prelude.{slice_get}

none_out : (n c : ℕ) → c < n → slice_get (replicate n false) c ≡ Some false
none_out zero c below = absurd (omega (arith, below))
none_out (suc n) zero below = refl
none_out (suc n) (suc c) below = none_out n c (omega (arith, below))
