-- The JSON text of an operation: the array of its components in normal form.
use Rattle.std.specs.Prelude.{◌≡◌, ◌<◌, ◌-◌, ◌^◌, ℕ, true, negsuc, List, map, ◌≤◌}
use Rattle.std.specs.Str.{encode_utf8_all, all_scalars}
use Rattle.serde_json.specs.Data.{Data, number, unsigned, negative, string, array}
use Rattle.serde_json.specs.View.{items_of}
use Rattle.serde_json.specs.Written.{compact_text}
use Rattle.ot_operation.specs.Operation.{Operation}
use Rattle.ot_operation.specs.Run.{Run, Keep, Add, Skip}
use Rattle.ot_operation.specs.Run.{normal_runs}
use Rattle.ot_operation.specs.declared.TheConstants.{LIMIT}

abbrev pub data_of : Run ℕ → Data
data_of (Keep n) = number (unsigned n)
data_of (Add s) = string (encode_utf8_all s)
data_of (Skip n) = number (negative (negsuc (n - 1)))

abbrev pub array_of : List (Run ℕ) → Data
array_of rs = array (items_of (map data_of rs))

-- the compact text of the array
abbrev pub text_of_operation : Operation ℕ → List ℕ
text_of_operation op = compact_text (array_of (normal_runs op))

-- a component that has a JSON form
abbrev pub HasForm : Run ℕ → Type 0
HasForm (Keep n) = (0 < n) × (n < 2 ^ 64)
HasForm (Add s) = all_scalars s ≡ true
HasForm (Skip n) = (0 < n) × (n < 2 ^ 63)

-- the count of a component is above 0 and within the limit
abbrev pub IsCounted : Run ℕ → Type 0
IsCounted (Keep n) = (0 < n) × (n ≤ LIMIT)
IsCounted (Add s) = Unit {0}
IsCounted (Skip n) = (0 < n) × (n ≤ LIMIT)

-- new items are characters
abbrev pub HasScalars : Run ℕ → Type 0
HasScalars (Keep n) = Unit {0}
HasScalars (Add s) = all_scalars s ≡ true
HasScalars (Skip n) = Unit {0}
