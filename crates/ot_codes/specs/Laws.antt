-- Operations without their elements: the laws that lead from shapes and elements to operations.
use Rattle.std.specs.Prelude.{◌≡◌, ◌↔◌, ℕ, List, ◌++◌, length, map}
use Rattle.ot_operation.specs.Operation.{Operation, IsOperation, news, with_retain, with_insert, with_delete}
use Rattle.ot_operation.specs.Compose.{compose}
use Rattle.ot_operation.specs.Merge.{first_after, second_after}
use Rattle.ot_codes.specs.Shape.{blank, shape, filled}
use Rattle.ot_codes.specs.Cuts.{assembled, GiveText}
use Rattle.ot_codes.specs.declared.cut.Cut.{Cut}

-- a shape is an operation exactly where what it is the shape of is one, and has its lengths
abbrev pub ShapeKeepsLengths : Type 0 → Type 0
ShapeKeepsLengths A =
    (op : Operation A)
    → (IsOperation (shape op) ↔ IsOperation op) × ((shape op).base ≡ op.base)
    × (length (shape op).image ≡ length op.image) × (length (news (shape op).image) ≡ length (news op.image))

-- an operation is its shape and its elements
abbrev pub FilledGivesBack : Type 0 → Type 0
FilledGivesBack A = (op : Operation A) → filled (shape op) (news op.image) ≡ op

-- two operations of one shape that insert the same are equal
abbrev pub SameShape : Type 0 → Type 0
SameShape A = (a b : Operation A) → shape a ≡ shape b → news a.image ≡ news b.image → a ≡ b

-- a shape filled with as many elements as it inserts has that shape and inserts these
abbrev pub FilledFits : Type 0 → Type 0
FilledFits A =
    (op : Operation (Unit {0})) (text : List A) → length text ≡ length (news op.image)
    → (shape (filled op text) ≡ op) × (news (filled op text).image ≡ text)

-- one more component in the shape, and its elements behind the others
abbrev pub BuildingKeepsShape : Type 0 → Type 0
BuildingKeepsShape A =
    (op : Operation A) (count : ℕ) (text : List A)
    → (shape (with_retain op count) ≡ with_retain (shape op) count) × (news (with_retain op count).image ≡ news op.image)
    × (shape (with_insert op text) ≡ with_insert (shape op) (map blank text)) × (news (with_insert op text).image ≡ news op.image ++ text)
    × (shape (with_delete op count) ≡ with_delete (shape op) count) × (news (with_delete op count).image ≡ news op.image)

-- transform looks at no element
abbrev pub TransformKeepsShape : Type 0 → Type 0
TransformKeepsShape A =
    (a b : Operation A)
    → (shape (first_after a b) ≡ first_after (shape a) (shape b)) × (shape (second_after a b) ≡ second_after (shape a) (shape b))

-- so what the shapes become, filled with the elements that were there, is what the operations become
abbrev pub TransformFills : Type 0 → Type 0
TransformFills A =
    (a b : Operation A) → IsOperation a → IsOperation b → a.base ≡ b.base
    → (filled (first_after (shape a) (shape b)) (news a.image) ≡ first_after a b) × (filled (second_after (shape a) (shape b)) (news b.image) ≡ second_after a b)

-- compose looks at no element
abbrev pub ComposeKeepsShape : Type 0 → Type 0
ComposeKeepsShape A = (a b : Operation A) → shape (compose a b) ≡ compose (shape a) (shape b)

-- cuts that give the text of a composition by the shapes give it for all operations of these shapes
abbrev pub CutsGiveText : Type 0 → Type 0
CutsGiveText A = (a b : Operation A) (cuts : List Cut) → GiveText cuts (shape a) (shape b) → assembled cuts (news a.image) (news b.image) ≡ news (compose a b).image

-- so the composition of the shapes, filled with that text, is the composition
abbrev pub ComposeFills : Type 0 → Type 0
ComposeFills A =
    (a b : Operation A) (cuts : List Cut) → GiveText cuts (shape a) (shape b)
    → filled (compose (shape a) (shape b)) (assembled cuts (news a.image) (news b.image)) ≡ compose a b
