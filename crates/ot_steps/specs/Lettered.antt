-- Runs of elements that are shown as letters.
use Rattle.std.specs.Prelude.{ℕ, List, map, true}
use Rattle.serde_json.specs.View.{items_of}
use Rattle.serde_json.specs.Written.{compact_text, items_text}
use Rattle.ot_operation.specs.Run.{Run, Keep, Add, Skip}
use Rattle.ot_json.specs.Writing.{array_of, data_of}

-- ---- for private clauses

-- a run with the letter of each element that it adds
abbrev pub lettered : {A : Type 0} → (A → ℕ) → Run A → Run ℕ
lettered code (Keep n) = Keep n
lettered code (Add text) = Add (map code text)
lettered code (Skip n) = Skip n

-- the text of a run
abbrev pub item_text : {A : Type 0} → (A → ℕ) → Run A → List ℕ
item_text code r = compact_text (data_of (lettered code r))

-- the texts of runs, each behind a comma, and the closing bracket
abbrev pub items_from : {A : Type 0} → (A → ℕ) → List (Run A) → List ℕ
items_from code rs = items_text true (items_of (map data_of (map (lettered code) rs)))

-- the whole array
abbrev pub array_text : {A : Type 0} → (A → ℕ) → List (Run A) → List ℕ
array_text code rs = compact_text (array_of (map (lettered code) rs))
