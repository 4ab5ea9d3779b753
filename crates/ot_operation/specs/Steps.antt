-- An operation with more runs at its end, and runs of which a part is taken.
use Rattle.std.specs.Prelude.{ℕ, ◌+◌, ◌-◌, ◌≤◌, List, [], ◌∷◌, ◌++◌, length, take, drop, Bool, true, false, nat_eq, if◌then◌else◌}
use Rattle.ot_operation.specs.Operation.{Operation, with_retain, with_insert, with_delete}
use Rattle.ot_operation.specs.Run.{Run, Keep, Add, Skip, base_of, image_from}

-- an operation with one more run at its end
abbrev pub appended : {A : Type 0} → Operation A → Run A → Operation A
appended op (Keep count) = with_retain op count
appended op (Add text) = with_insert op text
appended op (Skip count) = with_delete op count

-- how many elements the runs make
abbrev pub target_of : {A : Type 0} → List (Run A) → ℕ
target_of [] = 0
target_of (Keep count ∷ runs) = count + target_of runs
target_of (Add text ∷ runs) = length text + target_of runs
target_of (Skip count ∷ runs) = target_of runs

-- the runs without the first `count` elements of their first run
abbrev pub skipped : {A : Type 0} → ℕ → List (Run A) → List (Run A)
skipped count [] = []
skipped count (Keep all ∷ runs) = if nat_eq count all then runs else Keep (all - count) ∷ runs
skipped count (Add text ∷ runs) = Add text ∷ runs
skipped count (Skip all ∷ runs) = if nat_eq count all then runs else Skip (all - count) ∷ runs

-- the runs without what makes their first `count` elements
abbrev pub skipped_made : {A : Type 0} → ℕ → List (Run A) → List (Run A)
skipped_made count [] = []
skipped_made count (Keep all ∷ runs) = if nat_eq count all then runs else Keep (all - count) ∷ runs
skipped_made count (Add text ∷ runs) = if nat_eq count (length text) then runs else Add (drop count text) ∷ runs
skipped_made count (Skip all ∷ runs) = Skip all ∷ runs

-- an operation with `count` elements of the document at its end, as it treats them after the other
abbrev pub transformed_part : {A : Type 0} → Operation A → Bool → Bool → ℕ → Operation A
transformed_part op true true count = with_retain op count
transformed_part op false true count = with_delete op count
transformed_part op keeps false count = op

-- how many places the last run keeps
abbrev pub kept_by : {A : Type 0} → Run A → ℕ
kept_by (Keep count) = count
kept_by (Add text) = 0
kept_by (Skip count) = 0

abbrev pub last_keep : {A : Type 0} → List (Run A) → ℕ
last_keep [] = 0
last_keep (run ∷ []) = kept_by run
last_keep (_ ∷ run ∷ runs) = last_keep (run ∷ runs)

-- the runs take `count` places, or more, which their last run keeps
abbrev pub Covers : {A : Type 0} → ℕ → List (Run A) → Type 0
Covers count runs = (count ≤ base_of runs) × (base_of runs ≤ count + last_keep runs)

-- an operation with more runs at its end
abbrev pub with_runs : {A : Type 0} → Operation A → List (Run A) → Operation A
with_runs op runs = record { base = op.base + base_of runs; image = op.image ++ image_from op.base runs }
