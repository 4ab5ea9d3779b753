-- The text of a composition: the text of the first operation with cuts, in which elements are deleted and others inserted from the text of the second.
use Rattle.std.specs.Prelude.{◌≡◌, ℕ, zero, suc, ◌+◌, ◌-◌, ◌≤◌, List, [], ◌∷◌, ◌++◌, length, take, drop, Bool, ◌&&◌, nat_eq, if◌then◌else◌}
use Rattle.ot_operation.specs.Operation.{Operation, news}
use Rattle.ot_operation.specs.Compose.{compose}
use Rattle.ot_codes.specs.Shape.{filled}
use Rattle.ot_codes.specs.declared.cut.Cut.{Cut}

-- what cuts make of two texts; the first one, of which `xs` is left, from its place `at` on
abbrev pub assembled_from : {A : Type 0} → ℕ → List Cut → List A → List A → List A
assembled_from at [] xs ys = xs
assembled_from at (cut ∷ cuts) xs ys =
    take (cut.at - at) xs ++ (take cut.put (drop cut.from ys) ++ assembled_from (cut.at + cut.gone) cuts (drop (cut.at - at + cut.gone) xs) ys)

abbrev pub assembled : {A : Type 0} → List Cut → List A → List A → List A
assembled cuts xs ys = assembled_from 0 cuts xs ys

-- cuts are in order, from a place of the first text on, and lie in texts of these lengths
abbrev pub AreWithin : ℕ → List Cut → ℕ → ℕ → Type 0
AreWithin at [] first second = at ≤ first
AreWithin at (cut ∷ cuts) first second = (at ≤ cut.at) × (cut.from + cut.put ≤ second) × AreWithin (cut.at + cut.gone) cuts first second

-- the next cut begins where this one ends, in both texts
abbrev pub meets : Cut → Cut → Bool
meets cut next = nat_eq (cut.at + cut.gone) next.at && nat_eq (cut.from + cut.put) next.from

-- then the two are one
abbrev pub longer : Cut → Cut → Cut
longer cut next = record cut { gone = cut.gone + next.gone; put = cut.put + next.put }

-- one more cut at the end
abbrev pub with_cut : List Cut → Cut → List Cut
with_cut [] next = next ∷ []
with_cut (cut ∷ []) next = if meets cut next then longer cut next ∷ [] else cut ∷ next ∷ []
with_cut (cut ∷ more ∷ cuts) next = cut ∷ with_cut (more ∷ cuts) next

-- where an element of a composition comes from: a place in the text of the first operation, or of the second
pub data Source : Type 0 where
  OfFirst : ℕ → Source
  OfSecond : ℕ → Source

-- `count` places from one on
abbrev pub places : (ℕ → Source) → ℕ → ℕ → List Source
places mark at zero = []
places mark at (suc count) = mark at ∷ places mark (suc at) count

-- how much a shape inserts
abbrev pub size : Operation (Unit {0}) → ℕ
size op = length (news op.image)

-- a shape, filled with the places of its own text
abbrev pub placed : (ℕ → Source) → Operation (Unit {0}) → Operation Source
placed mark op = filled op (places mark 0 (size op))

-- the cuts lie within the texts of two operations of these shapes, and make of them the text of their composition: it is so for the places of all elements
pub record GiveText (cuts : List Cut) (a b : Operation (Unit {0})) : Type 0 where
  pub within : AreWithin 0 cuts (size a) (size b)
  pub text : assembled cuts (places OfFirst 0 (size a)) (places OfSecond 0 (size b)) ≡ news (compose (placed OfFirst a) (placed OfSecond b)).image
