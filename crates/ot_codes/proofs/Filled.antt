-- An operation is its shape and its elements.
use Rattle.std.proofs.Common.{◌≡◌, ℕ, zero, suc, List, [], ◌∷◌, ◌++◌, length, map, refl, sym, ap, ◌∙◌, arith}
use Rattle.ot_operation.specs.Operation.{Item, Old, New, Operation, IsOperation, news, olds}
use Rattle.ot_operation.specs.Merge.{first_after, second_after}
use Rattle.ot_operation.proofs.TransformedLaws.{news-first_after, news-second_after}
use Rattle.ot_codes.specs.Shape.{mapped_item, blank, shape, filled_image, filled}
use Rattle.ot_codes.proofs.Mapped.{same_parts, first_after-mapped, second_after-mapped}

filled_back : {A : Type 0} (image : List (Item A)) → filled_image (map (mapped_item blank) image) (news image) ≡ image
filled_back [] = refl
filled_back (Old i ∷ image) = ap (λ rest. Old i ∷ rest) (filled_back image)
filled_back (New x ∷ image) = ap (λ rest. New x ∷ rest) (filled_back image)

pub filled-shape : {A : Type 0} (op : Operation A) → filled (shape op) (news op.image) ≡ op
filled-shape op = same_parts _ _ _ _ refl (filled_back op.image)

pub same_shape : {A : Type 0} (a b : Operation A) → shape a ≡ shape b → news a.image ≡ news b.image → a ≡ b
same_shape a b shapes texts = sym (filled-shape a) ∙ ap (λ s. filled s (news a.image)) shapes ∙ ap (filled (shape b)) texts ∙ filled-shape b

shape_filled : {A : Type 0} (image : List (Item (Unit {0}))) (text : List A) → length text ≡ length (news image) → map (mapped_item blank) (filled_image image text) ≡ image
shape_filled [] text fits = refl
shape_filled (Old i ∷ image) text fits = ap (λ rest. Old i ∷ rest) (shape_filled image text fits)
shape_filled (New _ ∷ image) [] fits = absurd (omega (arith, fits))
shape_filled (New _ ∷ image) (x ∷ text) fits = ap (λ rest. New tt ∷ rest) (shape_filled image text (omega (arith, fits)))

news_filled : {A : Type 0} (image : List (Item (Unit {0}))) (text : List A) → length text ≡ length (news image) → news (filled_image image text) ≡ text
news_filled [] [] fits = refl
news_filled [] (x ∷ text) fits = absurd (omega (arith, fits))
news_filled (Old i ∷ image) text fits = news_filled image text fits
news_filled (New _ ∷ image) [] fits = absurd (omega (arith, fits))
news_filled (New _ ∷ image) (x ∷ text) fits = ap (λ rest. x ∷ rest) (news_filled image text (omega (arith, fits)))

pub filled_fits :
    {A : Type 0} (op : Operation (Unit {0})) (text : List A) → length text ≡ length (news op.image)
    → (shape (filled op text) ≡ op) × (news (filled op text).image ≡ text)
filled_fits op text fits = (same_parts _ _ _ _ refl (shape_filled op.image text fits), news_filled op.image text fits)

pub news_append : {A : Type 0} (xs ys : List (Item A)) → news (xs ++ ys) ≡ news xs ++ news ys
news_append [] ys = refl
news_append (Old i ∷ xs) ys = news_append xs ys
news_append (New x ∷ xs) ys = ap (λ rest. x ∷ rest) (news_append xs ys)

pub news_olds : (A : Type 0) (from count : ℕ) → news (olds {A = A} from count) ≡ []
news_olds A from zero = refl
news_olds A from (suc count) = news_olds A (suc from) count

pub news_texts : {A : Type 0} (text : List A) → news (map New text) ≡ text
news_texts [] = refl
news_texts (x ∷ text) = ap (λ rest. x ∷ rest) (news_texts text)

pub first_fills :
    {A : Type 0} (a b : Operation A) → IsOperation a → IsOperation b → a.base ≡ b.base
    → filled (first_after (shape a) (shape b)) (news a.image) ≡ first_after a b
first_fills a b first second same =
    ap (λ s. filled s (news a.image)) (sym (first_after-mapped blank a b))
    ∙ ap (filled (shape (first_after a b))) (sym (news-first_after a b first second same))
    ∙ filled-shape (first_after a b)

pub second_fills :
    {A : Type 0} (a b : Operation A) → IsOperation a → IsOperation b → a.base ≡ b.base
    → filled (second_after (shape a) (shape b)) (news b.image) ≡ second_after a b
second_fills a b first second same =
    ap (λ s. filled s (news b.image)) (sym (second_after-mapped blank a b))
    ∙ ap (filled (shape (second_after a b))) (sym (news-second_after a b first second same))
    ∙ filled-shape (second_after a b)
