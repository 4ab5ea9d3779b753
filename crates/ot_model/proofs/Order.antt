-- Lists on paths of operations, and their order.
use Rattle.std.proofs.Common.{◌≡◌, List, [], ◌∷◌, refl, sym, ◌∙◌, inl, inr}
use Rattle.std.specs.Prelude.{◌⊎◌}
use Rattle.ot_model.specs.Operation.{Operation, apply, news, first_after}
use Rattle.ot_isa.specs.declared.elements.Tag.{Tag}
use Rattle.ot_isa.specs.declared.elements.Tagged.{Tagged}
use Rattle.ot_model.specs.Sound.{Fits}
use Rattle.ot_model.proofs.Algebra.{AlgebraLaws}
use Rattle.ot_model.proofs.Vertices.{Has, Before, IsConsistent, PathFits, InPath, HasNew, Apart, ApartNew, lifted, OrderLaws}

pub Before_has : (a b : Tag) (xs : List Tagged) → Before a b xs → Has a xs × Has b xs
Before_has a b [] h = absurd h
Before_has a b (x ∷ xs) (inl here) = (inl here.0, inr here.1)
Before_has a b (x ∷ xs) (inr there) = let both = Before_has a b xs there in (inr both.0, inr both.1)

pub IsConsistent_sym : (u v : List Tagged) → IsConsistent u v → IsConsistent v u
IsConsistent_sym u v same a b h k = same b a k h

pub InPath_first : (d : List Tagged) (es : List (Operation Tagged)) → InPath d d es
InPath_first d [] = refl
InPath_first d (e ∷ es) = inl refl

module _ (laws : AlgebraLaws) (order : OrderLaws) where
  open laws use {first_fits, second_fits, same, first_news, second_news}
  open order use {keeps, from}

  -- one step: a list in which nothing of the operation stands is consistent with what the operation makes
  pub step_consistent : (u d : List Tagged) (e : Operation Tagged) → Fits e d → Apart u (news e) → IsConsistent u d → IsConsistent u (apply e d)
  step_consistent u d e fits apart same a b h k =
      let both = Before_has a b u h in
      same a b h (keeps e d b a fits k (apart b both.1) (apart a both.0))

  -- and so along a path
  pub along : (u d w : List Tagged) (es : List (Operation Tagged)) → PathFits d es → ApartNew u es → IsConsistent u d → InPath w d es → IsConsistent u w
  along u d w [] fits apart same is = rw is same
  along u d w (e ∷ es) fits apart same (inl is) = rw is same
  along u d w (e ∷ es) fits apart same (inr there) =
      along u (apply e d) w es fits.1 (λ t h k. apart t h (inr k)) (step_consistent u d e fits.0 (λ t h k. apart t h (inl k)) same) there

  -- what is on a path
  pub InPath_has : (d w : List Tagged) (es : List (Operation Tagged)) (t : Tag) → PathFits d es → InPath w d es → Has t w → Has t d ⊎ HasNew t es
  InPath_has d w [] t fits is h = inl (rw is at h)
  InPath_has d w (e ∷ es) t fits (inl is) h = inl (rw is at h)
  InPath_has d w (e ∷ es) t fits (inr there) h = elim (InPath_has (apply e d) w es t fits.1 there h) [
    | inl was ↦ elim (from e d t fits.0 was) [ inl old ↦ inl old | inr new ↦ inr (inl new) ]
    | inr later ↦ inr (inr later)
  ]

  -- a path transformed against z
  pub lifted_fits : (z : Operation Tagged) (d : List Tagged) (es : List (Operation Tagged)) → Fits z d → PathFits d es → PathFits (apply z d) (lifted z es)
  lifted_fits z d [] fits path = tt
  lifted_fits z d (e ∷ es) fits path =
      let rest = lifted_fits (first_after z e) (apply e d) es (first_fits z e d fits path.0) path.1 in
      (second_fits z e d fits path.0, rw (same z e d fits path.0) rest)

  pub lifted_news : (z : Operation Tagged) (d : List Tagged) (es : List (Operation Tagged)) (t : Tag) → Fits z d → PathFits d es → HasNew t (lifted z es) → HasNew t es
  lifted_news z d [] t fits path h = h
  lifted_news z d (e ∷ es) t fits path (inl here) = inl (rw (second_news z e fits.rising path.0.rising (fits.base ∙ sym path.0.base)) at here)
  lifted_news z d (e ∷ es) t fits path (inr there) = inr (lifted_news (first_after z e) (apply e d) es t (first_fits z e d fits path.0) path.1 there)

  -- a list in which nothing of z stands is consistent with the lifted path where it is with the path
  pub lift : (u z_w d : List Tagged) (z : Operation Tagged) (es : List (Operation Tagged)) → Fits z d → PathFits d es → Apart u (news z) → ((v : List Tagged) → InPath v d es → IsConsistent u v) → InPath z_w (apply z d) (lifted z es) → IsConsistent u z_w
  lift u w d z [] fits path apart below is = rw is (step_consistent u d z fits apart (below d refl))
  lift u w d z (e ∷ es) fits path apart below (inl is) = rw is (step_consistent u d z fits apart (below d (inl refl)))
  lift u w d z (e ∷ es) fits path apart below (inr there) =
      let f = first_fits z e d fits path.0 in
      let n : news (first_after z e) ≡ news z = first_news z e fits.rising path.0.rising (fits.base ∙ sym path.0.base) in
      lift u w (apply e d) (first_after z e) es f path.1 (rw n apart) (λ v on. below v (inr on)) (rw (same z e d fits path.0) at there)
