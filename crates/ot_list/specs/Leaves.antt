-- A list held in leaves.
use Rattle.std.specs.Prelude.{ℕ, ◌+◌, ◌-◌, ◌<◌, ◌≤◌, List, [], ◌∷◌, ◌++◌, length, take, drop, set, get_or}

-- the list that leaves make together
abbrev pub concatenated : {A : Type 0} → List (List A) → List A
concatenated [] = []
concatenated (leaf ∷ leaves) = leaf ++ concatenated leaves

-- a leaf and its right neighbour, if there is one, have more than `cap` items together
abbrev pub MayPrecede : {A : Type 0} → ℕ → List A → List (List A) → Type 0
MayPrecede cap leaf [] = Unit {0}
MayPrecede cap leaf (next ∷ leaves) = cap < length leaf + length next

-- leaves of 1 to `cap` items, each two neighbours with more than `cap`
abbrev pub AreLeaves : {A : Type 0} → ℕ → List (List A) → Type 0
AreLeaves cap [] = Unit {0}
AreLeaves cap (leaf ∷ leaves) = (0 < length leaf) × (length leaf ≤ cap) × MayPrecede cap leaf leaves × AreLeaves cap leaves

-- a leaf of `count` items may stand behind the last one, if there is one
abbrev pub MayEnd : {A : Type 0} → ℕ → List (List A) → ℕ → Type 0
MayEnd cap [] count = Unit {0}
MayEnd cap (leaf ∷ []) count = cap < length leaf + count
MayEnd cap (leaf ∷ next ∷ leaves) count = MayEnd cap (next ∷ leaves) count

-- the last leaf, or no items where there is none
abbrev pub last_leaf : {A : Type 0} → List (List A) → List A
last_leaf [] = []
last_leaf (leaf ∷ []) = leaf
last_leaf (leaf ∷ next ∷ leaves) = last_leaf (next ∷ leaves)

-- a list in which so many items go, from a place on, and others come there
abbrev pub with_run : {A : Type 0} → List A → ℕ → ℕ → List A → List A
with_run items at gone come = take at items ++ come ++ drop (at + gone) items

-- the same in one of the leaves
abbrev pub replaced : {A : Type 0} → List (List A) → ℕ → ℕ → ℕ → List A → List (List A)
replaced leaves place at gone come = set leaves place (with_run (get_or leaves place []) at gone come)

-- the leaf at a place may have so many items, beside its neighbours
pub record MayHave {A : Type 0} (cap : ℕ) (leaves : List (List A)) (place count : ℕ) : Type 0 where
  pub some : 0 < count
  pub before : 0 < place → cap < length (get_or leaves (place - 1) []) + count
  pub behind : place + 1 < length leaves → cap < length (get_or leaves (place + 1) []) + count
