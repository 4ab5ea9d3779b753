-- A place in a list of leaves.
use Rattle.std.specs.Prelude.{◌≡◌, ℕ, ◌+◌, ◌<◌, ◌≤◌, List, [], length, take, drop, get_or}
use Rattle.ot_operation.specs.declared.TheConstants.{LIMIT}
use Rattle.ot_list.specs.Leaves.{concatenated}

-- what is left of the leaf at a place, from an offset on
abbrev pub rest_at : {A : Type 0} → List (List A) → ℕ → ℕ → List A
rest_at leaves leaf offset = drop offset (get_or leaves leaf [])

-- what is left of the whole list there
abbrev pub left_at : {A : Type 0} → List (List A) → ℕ → ℕ → List A
left_at leaves leaf offset = drop offset (concatenated (drop leaf leaves))

-- how many items lie before a place
abbrev pub start_of : {A : Type 0} → List (List A) → ℕ → ℕ → ℕ
start_of leaves leaf offset = length (concatenated (take leaf leaves)) + offset

-- the offset stands on an item of its leaf, if there is such a leaf
abbrev pub IsInside : {A : Type 0} → List (List A) → ℕ → ℕ → Type 0
IsInside leaves leaf offset = leaf < length leaves → offset < length (get_or leaves leaf [])

-- leaves, with the number of their items
pub record IsHeld {A : Type 0} (leaves : List (List A)) (count : ℕ) : Type 0 where
  pub count_is : count ≡ length (concatenated leaves)
  pub fits : count ≤ LIMIT

-- a place behind the first items is in that leaf, or at its end
pub record IsBehind {A : Type 0} (leaves : List (List A)) (leaf offset count : ℕ) : Type 0 where
  pub there : leaf < length leaves
  pub within : offset ≤ length (get_or leaves leaf [])
  pub count_is : start_of leaves leaf offset ≡ count
