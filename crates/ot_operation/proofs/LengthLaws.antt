-- Bases and lengths of compositions and transformed operations.
use Rattle.std.proofs.Common.{◌≡◌, ℕ, suc, ◌+◌, ◌≤◌, List, [], ◌∷◌, length, refl, sym, ap, ◌∙◌, arith}
use Rattle.std.proofs.lemmas.List.{length-map}
use Rattle.ot_operation.specs.Operation.{Item, Operation, IsOperation, news, apply, invert, restored_from}
use Rattle.ot_operation.specs.Compose.{compose}
use Rattle.ot_operation.specs.Merge.{merge, over_first, over_second, first_after, second_after}
use Rattle.ot_operation.proofs.OrderLaws.{length-image, length-merge}
use Rattle.ot_operation.specs.Laws.{ComposeAssociates, ComposeFits, TransformIsMerge, TransformFits, InvertFits}
use Rattle.ot_operation.proofs.ComposeLaws.{apply-compose, compose_assoc, compose-IsOperation, length-compose}
use Rattle.ot_operation.proofs.TransformLaws.{compose-first_after, compose-second_after}
use Rattle.ot_operation.proofs.TransformedLaws.{first_after-IsOperation, second_after-IsOperation, news-second_after}
use Rattle.ot_operation.proofs.InvertedLaws.{invert-IsOperation}

pub compose-base : {A : Type 0} (a b : Operation A) → (compose a b).base ≡ a.base
unfolding compose
compose-base a b = refl

pub first_after-base : {A : Type 0} (a b : Operation A) → (first_after a b).base ≡ length b.image
unfolding first_after
first_after-base a b = refl

pub second_after-base : {A : Type 0} (a b : Operation A) → (second_after a b).base ≡ length a.image
unfolding second_after
second_after-base a b = refl

-- both orders make documents of one length
pub length-after : {A : Type 0} (a b : Operation A) → length (second_after a b).image ≡ length (first_after a b).image
unfolding first_after second_after
length-after {A} a b = length-map (merge a b) (over_first {A = A}) ∙ sym (length-map (merge a b) (over_second {A = A}))

-- neither result passes the document and all insertions together
pub length-first_after :
    {A : Type 0} (a b : Operation A) → IsOperation a → IsOperation b → a.base ≡ b.base
    → length (first_after a b).image ≤ a.base + length (news a.image) + length (news b.image)
unfolding first_after
length-first_after {A} a b a_rises b_rises same =
    omega (arith, length-map (merge a b) (over_second {A = A}), length-merge a b a_rises b_rises same)

-- the condition to transform what b became once more, by an operation on what a makes
pub room_after :
    {A : Type 0} (a b next : Operation A) (limit : ℕ) → IsOperation a → IsOperation b → a.base ≡ b.base → next.base ≡ length a.image
    → b.base + length (news a.image) + length (news next.image) + length (news b.image) ≤ limit
    → next.base + length (news next.image) + length (news (second_after a b).image) ≤ limit
room_after {A} a b next limit a_rises b_rises same joined fits =
    let kept : length (news (second_after a b).image) ≡ length (news b.image) = rw (news-second_after a b a_rises b_rises same) refl in
    omega (arith, kept, length-image a a_rises, same, joined, fits)

length-restored : {A : Type 0} (image : List (Item A)) (i : ℕ) (document : List A) → length (restored_from image i document) ≡ length document
length-restored image i [] = refl
length-restored image i (x ∷ document) = ap suc (length-restored image (suc i) document)

pub invert-base : {A : Type 0} (op : Operation A) (document : List A) → (invert op document).base ≡ length op.image
unfolding invert
invert-base op document = refl

pub length-invert : {A : Type 0} (op : Operation A) (document : List A) → length (invert op document).image ≡ length document
unfolding invert
length-invert op document = length-restored op.image 0 document

-- the laws

pub compose_associates : {A : Type 0} → ComposeAssociates A
compose_associates a b c document a_rises b_rises meets fits = (
  compose_assoc a b c b_rises meets,
  apply-compose (compose a b) c document (compose-IsOperation a b a_rises b_rises) (compose-base a b ∙ fits)
      ∙ ap (apply c) (apply-compose a b document a_rises fits),
)

pub compose_fits : {A : Type 0} → ComposeFits A
compose_fits a b a_rises b_rises meets = (compose-IsOperation a b a_rises b_rises, compose-base a b, length-compose a b b_rises meets)

pub transform_is_merge : {A : Type 0} → TransformIsMerge A
transform_is_merge a b same = (compose-second_after a b, compose-first_after a b same)

pub transform_fits : {A : Type 0} → TransformFits A
transform_fits a b a_rises b_rises same = (
  first_after-IsOperation a b a_rises b_rises same,
  second_after-IsOperation a b a_rises b_rises same,
  first_after-base a b,
  second_after-base a b,
  sym (length-after a b),
  length-first_after a b a_rises b_rises same,
)

pub invert_fits : {A : Type 0} → InvertFits A
invert_fits op document rises fits = (invert-IsOperation op document rises fits, invert-base op document, length-invert op document)
