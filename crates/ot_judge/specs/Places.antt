-- Where the tags of a list stand in it.
use Rattle.std.specs.Prelude.{ℕ, List, Some, ◌≡◌, ◌≢◌, ◌<◌, length, slice_index_or, AllPairs}
use Rattle.std.specs.HashMap.{HashMap, get}
use Rattle.ot_isa.specs.declared.elements.Tag.{Tag}
use Rattle.ot_model.specs.Trace.{same_tag}

-- no tag stands in the list twice
abbrev pub IsDistinct : List Tag → Type 0
IsDistinct xs = AllPairs (λ a b. a ≢ b) xs

-- the map names the place of each tag of the list, and nothing else
pub record IsIndex {S : Type 0} (places : HashMap Tag ℕ S) (xs : List Tag) : Type 0 where
  pub each : (p : ℕ) (d : Tag) → p < length xs → get same_tag places (slice_index_or xs p d) ≡ Some p
  pub only : (q : Tag) (p : ℕ) → get same_tag places q ≡ Some p → (p < length xs) × (slice_index_or xs p q ≡ q)
