-- Codes that are read at once.
use Rattle.std.specs.Prelude.{◌≡◌, ℕ, ◌+◌, ◌<◌, ◌≤◌, ◌^◌, List, [], ◌∷◌, ◌++◌, length, Option, Some, None}
use Rattle.ot_codes.specs.declared.code.Code.{Code}
use Rattle.ot_codes.specs.declared.code.Sum.{Sum}
use Rattle.ot_codes.specs.declared.cursor.Measure.{Measure}
use Rattle.ot_codes.specs.declared.cursor.Measure.TheVariants.{Taken, Made}
use Rattle.ot_codes.specs.Codes.{first_of, length_of, others_of, sum_of, with_length}

-- how much a sum comes to
abbrev pub measured : Measure → Sum → ℕ
measured Taken sum = sum.kept + sum.deleted
measured Made sum = sum.kept + sum.inserted

-- the code is the first one of these, or what is left of it
abbrev pub IsPartOf : Code → List Code → Type 0
IsPartOf code [] = ⊥
IsPartOf code (first ∷ others) = code ≡ with_length first (length_of code)

-- the code at hand of a block, if there is one
abbrev pub IsHead : Option Code → List Code → Type 0
IsHead None block = Unit {0}
IsHead (Some code) block = IsPartOf code block

-- the sum, if it is there, is that of a block of which the first code is whole
abbrev pub IsSumOf : Option Sum → Option Code → List Code → Type 0
IsSumOf None head block = Unit {0}
IsSumOf (Some sum) head block = (head ≡ first_of block) × (sum ≡ sum_of block)

-- codes that are read at once: those of a block, of which the first one may be what is left of it, and those of whole blocks behind it
abbrev pub read_codes : Code → List Code → List Code → List Code
read_codes first block more = first ∷ (others_of block ++ more)

-- what they come to, together and behind the block
pub record IsRead (first : Code) (block more : List Code) (sum more_sum : Sum) : Type 0 where
  pub part : IsPartOf first block
  pub few : length block ≤ 64
  pub sum_is : sum ≡ sum_of (read_codes first block more)
  pub more_is : more_sum ≡ sum_of more

-- they are the first ones of these codes, and come to at most `limit`; and those behind them
pub record IsRun (limit : ℕ) (by : Measure) (codes : List Code) (first : Code) (block more : List Code) (sum more_sum : Sum) (behind : List Code) : Type 0 where
  pub read : IsRead first block more sum more_sum
  pub parts : codes ≡ read_codes first block more ++ behind
  pub fits : measured by sum ≤ limit
  pub small : sum.kept + sum.deleted + sum.inserted < 2 ^ 26
