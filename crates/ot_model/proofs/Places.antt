-- An inserted element stands at its place.
use Rattle.std.proofs.Common.{◌≡◌, ℕ, zero, suc, ◌+◌, ◌<◌, ◌≤◌, List, [], ◌∷◌, length, refl, sym, ap, ◌∙◌, subst, arith, Option, Some, None}
use Rattle.std.proofs.lemmas.Option.{same_Some}
use Rattle.std.specs.Prelude.{slice_get}
use Rattle.std.specs.List.{filter_map, cons_option}
use Rattle.ot_model.specs.Operation.{Item, Old, New, Operation, RisesFrom, apply}
use Rattle.ot_operation.specs.Operation.{value_in}
use Rattle.ot_isa.specs.declared.elements.Tagged.{Tagged}
use Rattle.ot_model.specs.Sound.{Fits}
use Rattle.ot_model.specs.declared.trace.Placed.{Placed}
use Rattle.ot_model.specs.Events.{insertions_from, tags}

-- the n-th insertion, from place p on, stands in the list that the items make
place_items : (low base p : ℕ) (items : List (Item Tagged)) (d : List Tagged) (i : ℕ) (n : Placed) → RisesFrom low base items → base ≡ length d → slice_get (insertions_from p items) i ≡ Some n
    → (j : ℕ) × (n.place ≡ p + j) × (slice_get (tags (filter_map (value_in d) items)) j ≡ Some n.tag)
place_items low base p [] d i n rises same e = absurd (cc)
place_items low base p (New x ∷ items) d zero n rises same e =
    let is = same_Some (record { tag = x.tag; place = p }) n e in
    (0, ap (λ (m : Placed). m.place) (sym is) ∙ omega arith, ap (λ (m : Placed). Some m.tag) is)
place_items low base p (New x ∷ items) d (suc i) n rises same e =
    let rest = place_items low base (suc p) items d i n rises same e in
    let at = rest.1 in
    (suc rest.0, omega arith, rest.2)
place_items low base p (Old k ∷ items) d i n rises same e =
    go (slice_get d k) refl (place_items (suc k) base (suc p) items d i n rises.2 same e)
  where
    go : (o : Option Tagged) → slice_get d k ≡ o → ((j : ℕ) × (n.place ≡ suc p + j) × (slice_get (tags (filter_map (value_in d) items)) j ≡ Some n.tag)) → (j : ℕ) × (n.place ≡ p + j) × (slice_get (tags (cons_option o (filter_map (value_in d) items))) j ≡ Some n.tag)
    go (Some x) is rest = let at = rest.1 in (suc rest.0, omega arith, rest.2)
    go None is rest = absurd (let below : k < length d = let b = rises.1 in omega arith in let some = absent k d is in omega arith)
      where
        absent : (k : ℕ) (d : List Tagged) → slice_get d k ≡ None → length d ≤ k
        absent k [] e = omega arith
        absent zero (x ∷ d) e = absurd (cc)
        absent (suc k) (x ∷ d) e = let le = absent k d e in omega arith

pub place_of : (z : Operation Tagged) (d : List Tagged) (i : ℕ) (n : Placed) → Fits z d → slice_get (insertions_from 0 z.image) i ≡ Some n → slice_get (tags (apply z d)) n.place ≡ Some n.tag
unfolding apply
place_of z d i n fits e =
    let found = place_items 0 z.base 0 z.image d i n fits.rising fits.base e in
    let at : found.0 ≡ n.place = let is = found.1 in omega arith in
    subst (λ (j : ℕ). slice_get (tags (apply z d)) j ≡ Some n.tag) at found.2
