-- Operations with lengths counted in UTF-16 units.
use Rattle.std.specs.Prelude.{◌≡◌, ℕ, ◌+◌, List, [], ◌∷◌, length, take, drop, nat_lt, count_by, ◌==◌, if◌then◌else◌, Bool, true, false, Option, Some, None}
use Rattle.ot_operation.specs.Operation.{Operation, empty}
use Rattle.ot_operation.specs.Run.{Run, Keep, Add, Skip, normal_runs}
use Rattle.ot_json.specs.Reading.{with_run, is_too_long}

-- a character past U+FFFF has two units, any other one
abbrev pub is_wide : ℕ → Bool
is_wide ch = nat_lt 65535 ch

abbrev pub units : List ℕ → ℕ
units text = length text + count_by is_wide text

-- a run over a text: what it keeps or takes away, in units
abbrev pub unit_run : List ℕ → Run ℕ → Run ℕ
unit_run text (Keep count) = Keep (units (take count text))
unit_run text (Add letters) = Add letters
unit_run text (Skip count) = Skip (units (take count text))

-- the text behind it
abbrev pub behind : List ℕ → Run ℕ → List ℕ
behind text (Keep count) = drop count text
behind text (Add letters) = text
behind text (Skip count) = drop count text

-- the operation with a run more; none where a length would pass the limit
abbrev pub with_one_more : Operation ℕ → Run ℕ → Option (Operation ℕ)
with_one_more op run = if is_too_long (with_run op run) then None else Some (with_run op run)

-- with a run more, if it is added
abbrev pub IsAdded : Operation ℕ → List ℕ → Run ℕ → Operation ℕ → Bool → Type 0
IsAdded op text run next true = with_one_more op (unit_run text run) ≡ Some next
IsAdded op text run next false = with_one_more op (unit_run text run) ≡ None

abbrev pub units_from : Operation ℕ → List ℕ → List (Run ℕ) → Option (Operation ℕ)
units_from op text [] = Some op
units_from op text (run ∷ runs) = elim (with_one_more op (unit_run text run)) [ None ↦ None | Some next ↦ units_from next (behind text run) runs ]

-- the operation over a text, counted in units
abbrev pub in_units : Operation ℕ → List ℕ → Option (Operation ℕ)
in_units op text = if op.base == length text then units_from empty text (normal_runs op) else None
