-- The first answer of a function at numbers that rise from 0.
use Rattle.std.specs.Prelude.{ℕ, zero, suc, Bool, Option, Some, None, if◌then◌else◌}
use Rattle.std.specs.Option.{option_or}

-- the first answer of f at 0, 1 and so on below n
abbrev pub first_below : {A : Type 0} → ℕ → (ℕ → Option A) → Option A
first_below zero f = None
first_below (suc n) f = option_or (first_below n f) (f n)

abbrev pub number_if : Bool → ℕ → Option ℕ
number_if passes n = if passes then Some n else None
