-- What the proofs on runs ask of the algebra, and that it keeps that.
use Rattle.std.proofs.Common.{◌≡◌, ◌+◌, ◌≤◌, List, [], ◌∷◌, length, refl, sym, ◌∙◌, arith, cond}
use Rattle.std.proofs.lemmas.List.Sums.{sum_by-cons}
use Rattle.ot_operation.proofs.ApplyLaws.{length-apply}
use Rattle.ot_operation.proofs.ComposeLaws.{apply-compose, compose-IsOperation, news_count-compose}
use Rattle.ot_operation.proofs.TransformLaws.{transform_converges}
use Rattle.ot_operation.proofs.TransformedLaws.{news-first_after, news-second_after, first_after-IsOperation, second_after-IsOperation}
use Rattle.ot_operation.proofs.OrderLaws.{length-image}
use Rattle.ot_operation.proofs.LengthLaws.{compose-base, first_after-base, second_after-base}
use Rattle.std.specs.Prelude.{true, count_by}
use Rattle.ot_isa.specs.declared.elements.Tag.{Tag}
use Rattle.ot_isa.specs.declared.elements.Tagged.{Tagged}
use Rattle.ot_model.specs.Operation.{Operation, IsOperation, apply, compose, inserted, news, first_after, second_after}
use Rattle.ot_model.specs.Sound.{Fits, has_tag, times}

-- what the algebra ensures, at the tagged elements
pub record AlgebraLaws : Type 0 where
  pub apply-length : (a : Operation Tagged) (d : List Tagged) → Fits a d → length (apply a d) ≡ length a.image
  pub first_fits : (a b : Operation Tagged) (d : List Tagged) → Fits a d → Fits b d → Fits (first_after a b) (apply b d)
  pub second_fits : (a b : Operation Tagged) (d : List Tagged) → Fits a d → Fits b d → Fits (second_after a b) (apply a d)
  pub same : (a b : Operation Tagged) (d : List Tagged) → Fits a d → Fits b d → apply (second_after a b) (apply a d) ≡ apply (first_after a b) (apply b d)
  pub first_news : (a b : Operation Tagged) → IsOperation a → IsOperation b → a.base ≡ b.base → news (first_after a b) ≡ news a
  pub second_news : (a b : Operation Tagged) → IsOperation a → IsOperation b → a.base ≡ b.base → news (second_after a b) ≡ news b
  pub compose_fits : (a b : Operation Tagged) (d : List Tagged) → Fits a d → Fits b (apply a d) → Fits (compose a b) d
  pub apply-compose : (a b : Operation Tagged) (d : List Tagged) → Fits a d → Fits b (apply a d) → apply (compose a b) d ≡ apply b (apply a d)
  pub compose_times : (a b : Operation Tagged) (t : Tag) → IsOperation a → IsOperation b → times t (news (compose a b)) ≤ times t (news a) + times t (news b)
  pub compose_inserted : (a b : Operation Tagged) → IsOperation a → IsOperation b → inserted (compose a b) ≤ inserted a + inserted b
  pub image_length : (a : Operation Tagged) → IsOperation a → length a.image ≤ a.base + inserted a

count_all : {X : Type 0} (xs : List X) → count_by (λ _. true) xs ≡ length xs
count_all {X} [] = refl
count_all {X} (x ∷ xs) = omega (arith, sum_by-cons (λ (_ : X). cond true 1 0) x xs, count_all xs)

pub laws : AlgebraLaws
laws = record {
  apply-length = λ a d fits. length-apply a d fits.rising (omega (arith, fits.base));
  first_fits = λ a b d fa fb. record { rising = first_after-IsOperation a b fa.rising fb.rising (fa.base ∙ sym fb.base); base = first_after-base a b ∙ sym (length-apply b d fb.rising (omega (arith, fb.base))) };
  second_fits = λ a b d fa fb. record { rising = second_after-IsOperation a b fa.rising fb.rising (fa.base ∙ sym fb.base); base = second_after-base a b ∙ sym (length-apply a d fa.rising (omega (arith, fa.base))) };
  same = λ a b d fa fb. transform_converges a b d fa.rising fb.rising fa.base fb.base;
  first_news = λ a b ra rb same. news-first_after a b ra rb same;
  second_news = λ a b ra rb same. news-second_after a b ra rb same;
  compose_fits = λ a b d fa fb. record { rising = compose-IsOperation a b fa.rising fb.rising; base = compose-base a b ∙ fa.base };
  apply-compose = λ a b d fa fb. apply-compose a b d fa.rising fa.base;
  compose_times = λ a b t ra rb. news_count-compose (has_tag t) a b rb;
  compose_inserted = λ a b ra rb. omega (arith, news_count-compose (λ _. true) a b rb, count_all (news (compose a b)), count_all (news a), count_all (news b));
  image_length = λ a ra. length-image a ra;
}
