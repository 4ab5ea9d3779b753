-- Ranks of elements that never fall along a list.
use Rattle.std.specs.Prelude.{ℕ, List, Some, Bool, IsTrue, ◌≡◌, ◌<◌, ◌≤◌, ◌⊎◌, AllPairs, All, length, unwrap_or}
use Rattle.std.specs.HashMap.{HashMap, get}
use Rattle.std.specs.HashSet.{HashSet, contains as set_contains}
use Rattle.std.specs.Prelude.{nat_eq}
use Rattle.ot_isa.specs.declared.elements.Tag.{Tag}
use Rattle.ot_model.specs.Trace.{same_tag}
use Rattle.ot_model.specs.TraceLaws.{AgreeInOrder}
use Rattle.ot_model.specs.WeakList.{nth}

abbrev pub rank_of : {S : Type 0} → HashMap Tag ℕ S → Tag → ℕ
rank_of ranks a = unwrap_or (get same_tag ranks a) 0

abbrev pub NeverFalls : {S : Type 0} → HashMap Tag ℕ S → List Tag → Type 0
NeverFalls ranks xs = AllPairs (λ a b. rank_of ranks a ≤ rank_of ranks b) xs

-- the elements of the list have places that rise along it
abbrev pub Climbs : {S : Type 0} → HashMap Tag ℕ S → List Tag → Type 0
Climbs places xs = AllPairs (λ a b. rank_of places a < rank_of places b) xs

-- no later list has two elements in another order than the one at d
abbrev pub IsCompared : List (List Tag) → ℕ → Type 0
IsCompared lists d = (e : ℕ) → d < e → e < length lists → AgreeInOrder (nth lists d) (nth lists e)

-- whether two elements or more may have this element's rank
abbrev pub is_crowded : {S R : Type 0} → HashMap Tag ℕ S → HashSet ℕ R → Tag → Bool
is_crowded ranks crowded a = set_contains nat_eq crowded (rank_of ranks a)

-- each element of the list is the one that its rank belongs to, or the rank is crowded
abbrev pub IsAccounted : {S R Q : Type 0} → HashMap Tag ℕ S → HashMap ℕ Tag Q → HashSet ℕ R → List Tag → Type 0
IsAccounted ranks owners crowded xs = All (λ a. (get nat_eq owners (rank_of ranks a) ≡ Some a) ⊎ IsTrue (is_crowded ranks crowded a)) xs
