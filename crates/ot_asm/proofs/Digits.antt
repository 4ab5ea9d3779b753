-- A number of at most eight digits is below 10 ^ 8.
use Rattle.std.proofs.Common.{◌^◌, ◌<◌, ◌≤◌, ℕ, arith}
use Rattle.std.proofs.Math.Nat.{pow-le-pow_right}

pub below : (n i : ℕ) → n < 10 ^ i → i < 9 → n < 100000000
below n i h small =
    let most : 10 ^ i ≤ 10 ^ 8 = pow-le-pow_right {n = 10} (omega arith) {i = i} {j = 8} (omega arith) in
    omega arith
