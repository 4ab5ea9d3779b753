-- What stands once and stays in both, stays in the transformed operation.
use Rattle.std.proofs.Common.{◌≡◌, ℕ, zero, suc, ◌≤◌, List, [], ◌∷◌, refl, sym, ap, ◌∙◌, subst, arith, inl, inr, Option, Some, None, cond}
use Rattle.std.proofs.lemmas.Bool.{cond-true, and_from, eq-eqb}
use Rattle.std.proofs.lemmas.List.Sums.{sum_by-cons}
use Rattle.std.proofs.lemmas.Option.{same_Some}
use Rattle.std.specs.Prelude.{◌⊎◌, slice_get}
use Rattle.ot_model.specs.Operation.{Item, Old, New, Operation, apply, first_after, second_after}
use Rattle.std.specs.List.{filter_map, cons_option}
use Rattle.ot_operation.specs.Operation.{value_in}
use Rattle.ot_operation.specs.Operation as text
use Rattle.ot_isa.specs.declared.elements.Tag.{Tag}
use Rattle.ot_isa.specs.declared.elements.Tagged.{Tagged}
use Rattle.ot_model.specs.Sound.{times, has_tag}
use Rattle.ot_model.proofs.Algebra.{AlgebraLaws}
use Rattle.ot_model.proofs.Vertices.{Has}
use Rattle.ot_model.proofs.Knowledge.{KeepsBoth}
use Rattle.ot_model.proofs.Tags.{Has_times}
use Rattle.ot_model.proofs.Merging.{has_news}
use Rattle.ot_model.proofs.KeptOld.{HasOld, IsIn, keeps_old}

pub record Came (t : Tag) (items : List (Item Tagged)) (d : List Tagged) : Type 0 where
  pub place : ℕ
  pub found : Tagged
  pub old : HasOld place items
  pub at : slice_get d place ≡ Some found
  pub is : found.tag ≡ t

-- what stands in the result is new, or was at a place that is kept
came_from : (t : Tag) (items : List (Item Tagged)) (d : List Tagged) → Has t (filter_map (value_in d) items) → Has t (text.news items) ⊎ Came t items d
came_from t [] d h = absurd h
came_from t (New x ∷ items) d (inl here) = inl (inl here)
came_from t (New x ∷ items) d (inr there) = elim (came_from t items d there) [ inl new ↦ inl (inr new) | inr came ↦ inr (record { place = came.place; found = came.found; old = came.old; at = came.at; is = came.is }) ]
came_from t (Old i ∷ items) d h = go (slice_get d i) refl (came_from t items d) h
  where
    later : Has t (text.news items) ⊎ Came t items d → Has t (text.news items) ⊎ Came t (Old i ∷ items) d
    later (inl new) = inl new
    later (inr came) = inr (record { place = came.place; found = came.found; old = inr came.old; at = came.at; is = came.is })

    go : (o : Option Tagged) → slice_get d i ≡ o → (Has t (filter_map (value_in d) items) → Has t (text.news items) ⊎ Came t items d) → Has t (cons_option o (filter_map (value_in d) items)) → Has t (text.news items) ⊎ Came t (Old i ∷ items) d
    go None e rest k = later (rest k)
    go (Some x) e rest (inl here) = inr (record { place = i; found = x; old = inl refl; at = e; is = here })
    go (Some x) e rest (inr there) = later (rest there)

applied_from : (z : Operation Tagged) (d : List Tagged) (t : Tag) → Has t (apply z d) → Has t (text.news z.image) ⊎ Came t z.image d
unfolding apply
applied_from z d t h = came_from t z.image d h

has_at : (t : Tag) (d : List Tagged) (i : ℕ) (x : Tagged) → slice_get d i ≡ Some x → x.tag ≡ t → Has t d
has_at t [] i x e is = absurd (cc)
has_at t (y ∷ d) zero x e is = inl (ap (λ (z : Tagged). z.tag) (same_Some y x e) ∙ is)
has_at t (y ∷ d) (suc i) x e is = inr (has_at t d i x e is)

times_here : (x : Tagged) (t : Tag) (d : List Tagged) → x.tag ≡ t → times t (x ∷ d) ≡ suc (times t d)
times_here x t d is =
    let one : ◌≡◌ {A = ℕ} (cond (has_tag t x) 1 0) 1 = cond-true (has_tag t x) 1 0 (and_from _ _ (eq-eqb t.origin x.tag.origin (ap (λ (u : Tag). u.origin) (sym is))) (eq-eqb t.serial x.tag.serial (ap (λ (u : Tag). u.serial) (sym is)))) in
    let sum = sum_by-cons (λ y. cond (has_tag t y) 1 0) x d in
    omega arith

-- a tag that stands once, stands at one place
one_place : (t : Tag) (d : List Tagged) (i j : ℕ) (x y : Tagged) → times t d ≤ 1 → slice_get d i ≡ Some x → x.tag ≡ t → slice_get d j ≡ Some y → y.tag ≡ t → i ≡ j
one_place t [] i j x y once e is f js = absurd (cc)
one_place t (z ∷ d) zero zero x y once e is f js = refl
one_place t (z ∷ d) zero (suc j) x y once e is f js =
    let here = times_here z t d (ap (λ (w : Tagged). w.tag) (same_Some z x e) ∙ is) in
    let there = Has_times t d (has_at t d j y f js) in
    absurd (omega arith)
one_place t (z ∷ d) (suc i) zero x y once e is f js =
    let here = times_here z t d (ap (λ (w : Tagged). w.tag) (same_Some z y f) ∙ js) in
    let there = Has_times t d (has_at t d i x e is) in
    absurd (omega arith)
one_place t (z ∷ d) (suc i) (suc j) x y once e is f js =
    let sum = sum_by-cons (λ w. cond (has_tag t w) 1 0) z d in
    ap suc (one_place t d i j x y (omega arith) e is f js)

in_has : (x : Tagged) (w : List Tagged) → IsIn x w → Has x.tag w
in_has x [] h = h
in_has x (y ∷ w) (inl here) = inl (ap (λ (z : Tagged). z.tag) here)
in_has x (y ∷ w) (inr there) = inr (in_has x w there)

-- the law
pub keeps_both : AlgebraLaws → KeepsBoth
keeps_both laws z e d t z_fits e_fits once h in_z in_e =
    let bases = z_fits.base ∙ sym e_fits.base in
    let mine = laws.first_news z e z_fits.rising e_fits.rising bases in
    let theirs = laws.second_news z e z_fits.rising e_fits.rising bases in
    elim (applied_from z d t in_z) [
      | inl new ↦ has_news (first_after z e) (apply e d) t (rw mine new)
      | inr kept ↦ elim (applied_from e d t in_e) [
        | inl new ↦ subst (λ (w : List Tagged). Has t w) (laws.same z e d z_fits e_fits) (has_news (second_after z e) (apply z d) t (rw theirs new))
        | inr kept' ↦
            let i = kept.place in
            let same : i ≡ kept'.place = one_place t d i kept'.place kept.found kept'.found once kept.at kept.is kept'.at kept'.is in
            let stays = keeps_old z e d i kept.found z_fits.rising e_fits.rising z_fits.base e_fits.base kept.at kept.old (subst (λ (n : ℕ). HasOld n e.image) (sym same) kept'.old) in
            subst (λ (u : Tag). Has u (apply (first_after z e) (apply e d))) kept.is (in_has kept.found _ stays)
      ]
    ]
