-- The laws of operations.
use Rattle.std.specs.Prelude.{◌≡◌, ℕ, ◌+◌, ◌<◌, ◌≤◌, List, length, take, drop, Some, None, Bool, count_by}
use Rattle.std.specs.List.{slice_get}
use Rattle.ot_operation.specs.Operation.{Item, Operation, IsOperation, apply, invert, news, place_of}
use Rattle.ot_operation.specs.Compose.{compose}
use Rattle.ot_operation.specs.Merge.{first_after, second_after, merged}

-- to apply a composition is to apply its parts in turn
abbrev pub ComposeApplies : Type 0 → Type 0
ComposeApplies A =
    (a b : Operation A) (document : List A)
    → IsOperation a → a.base ≡ length document
    → apply (compose a b) document ≡ apply b (apply a document)

-- three operations in turn are one operation, whichever two are composed first, and to apply it is to apply the three in turn
abbrev pub ComposeAssociates : Type 0 → Type 0
ComposeAssociates A =
    (a b c : Operation A) (document : List A)
    → IsOperation a → IsOperation b → b.base ≡ length a.image → a.base ≡ length document
    → (compose (compose a b) c ≡ compose a (compose b c))
    × (apply (compose (compose a b) c) document ≡ apply c (apply b (apply a document)))

-- a composition takes what its first part takes, and makes as much as its second
abbrev pub ComposeFits : Type 0 → Type 0
ComposeFits A =
    (a b : Operation A) → IsOperation a → IsOperation b → b.base ≡ length a.image
    → IsOperation (compose a b) × ((compose a b).base ≡ a.base) × (length (compose a b).image ≡ length b.image)

-- two operations on one base, each after the other, are the same operation in either order
abbrev pub TransformMeets : Type 0 → Type 0
TransformMeets A = (a b : Operation A) → a.base ≡ b.base → compose a (second_after a b) ≡ compose b (first_after a b)

-- and that one operation is their merge
abbrev pub TransformIsMerge : Type 0 → Type 0
TransformIsMerge A =
    (a b : Operation A) → a.base ≡ b.base → (compose a (second_after a b) ≡ merged a b) × (compose b (first_after a b) ≡ merged a b)

-- what they become takes what the other made; both orders make equally much, no more than the document and all insertions
abbrev pub TransformFits : Type 0 → Type 0
TransformFits A =
    (a b : Operation A) → IsOperation a → IsOperation b → a.base ≡ b.base
    → IsOperation (first_after a b) × IsOperation (second_after a b)
    × ((first_after a b).base ≡ length b.image) × ((second_after a b).base ≡ length a.image)
    × (length (first_after a b).image ≡ length (second_after a b).image)
    × (length (first_after a b).image ≤ a.base + length (news a.image) + length (news b.image))

-- two operations on one document, each after the other, make the same document in either order
abbrev pub TransformConverges : Type 0 → Type 0
TransformConverges A =
    (a b : Operation A) (document : List A)
    → IsOperation a → IsOperation b → a.base ≡ length document → b.base ≡ length document
    → apply (second_after a b) (apply a document) ≡ apply (first_after a b) (apply b document)

-- what they become inserts the same elements in the same order
abbrev pub TransformKeepsNews : Type 0 → Type 0
TransformKeepsNews A =
    (a b : Operation A) → IsOperation a → IsOperation b → a.base ≡ b.base
    → (news (first_after a b).image ≡ news a.image) × (news (second_after a b).image ≡ news b.image)

-- a later image has Old i, with the new elements before and behind it that stand before and behind `place` of an image
abbrev pub KeepsSides : {A : Type 0} → List (Item A) → ℕ → List (Item A) → ℕ → Type 0
KeepsSides image place later i =
    (p : ℕ) × (place_of later i ≡ Some p) × (news (take place image) ≡ news (take p later)) × (news (drop place image) ≡ news (drop p later))

-- an element that both keep stays in what each becomes, on the same side of each new element
abbrev pub TransformKeepsSides : Type 0 → Type 0
TransformKeepsSides A =
    (a b : Operation A) (i p q : ℕ) → IsOperation a → IsOperation b → a.base ≡ b.base
    → place_of a.image i ≡ Some p → place_of b.image i ≡ Some q
    → KeepsSides a.image p (first_after a b).image q × KeepsSides b.image q (second_after a b).image p

-- an element that only the other keeps goes in what an operation becomes
abbrev pub TransformKeepsDeletions : Type 0 → Type 0
TransformKeepsDeletions A =
    (a b : Operation A) (i p : ℕ) → IsOperation a → IsOperation b → a.base ≡ b.base
    → (place_of a.image i ≡ None → place_of b.image i ≡ Some p → place_of (first_after a b).image p ≡ None)
    × (place_of b.image i ≡ None → place_of a.image i ≡ Some p → place_of (second_after a b).image p ≡ None)

-- what an operation keeps is what it was, and in its order
abbrev pub ApplyKeepsOrder : Type 0 → Type 0
ApplyKeepsOrder A =
    (op : Operation A) (document : List A) (i j p q : ℕ) → IsOperation op → op.base ≡ length document
    → place_of op.image i ≡ Some p → place_of op.image j ≡ Some q → i < j
    → (p < q) × (slice_get (apply op document) p ≡ slice_get document i) × (slice_get (apply op document) q ≡ slice_get document j)

-- a composition inserts nothing that its parts do not insert, and nothing more often
abbrev pub ComposeKeepsNews : Type 0 → Type 0
ComposeKeepsNews A =
    (test : A → Bool) (a b : Operation A) → IsOperation b
    → count_by test (news (compose a b).image) ≤ count_by test (news a.image) + count_by test (news b.image)

-- an operation and then its inverse restore the document
abbrev pub InvertGivesBack : Type 0 → Type 0
InvertGivesBack A =
    (op : Operation A) (document : List A) → IsOperation op → op.base ≡ length document
    → apply (invert op document) (apply op document) ≡ document

-- an inverse takes what the operation made, and makes as much as it took
abbrev pub InvertFits : Type 0 → Type 0
InvertFits A =
    (op : Operation A) (document : List A) → IsOperation op → op.base ≡ length document
    → IsOperation (invert op document) × ((invert op document).base ≡ length op.image)
    × (length (invert op document).image ≡ length document)
