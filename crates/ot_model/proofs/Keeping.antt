-- What applying an operation keeps of a list.
use Rattle.std.proofs.Common.{◌≡◌, ℕ, zero, suc, ◌+◌, ◌≤◌, List, [], ◌∷◌, drop, refl, ap, subst, arith, inl, inr, Option, Some, None, cond}
use Rattle.std.proofs.lemmas.List.Sums.{sum_by-cons}
use Rattle.std.specs.List.{filter_map, cons_option}
use Rattle.std.specs.Prelude.{◌⊎◌, slice_get}
use Rattle.ot_operation.specs.Operation.{Item, Old, New, Operation, apply}
use Rattle.ot_operation.specs.Operation.{RisesFrom, value_in, news as news_of}
use Rattle.ot_operation.specs.Compose.{compose, item_in}
use Rattle.ot_model.specs.Operation.{news}
use Rattle.ot_isa.specs.declared.elements.Tag.{Tag}
use Rattle.ot_isa.specs.declared.elements.Tagged.{Tagged}
use Rattle.ot_model.specs.Sound.{Fits, times, has_tag}
use Rattle.ot_model.proofs.Vertices.{Has, Before, OrderLaws}
use Rattle.ot_model.proofs.States.{drop_entry}

Has_drop : (t : Tag) (m n : ℕ) (d : List Tagged) → m ≤ n → Has t (drop n d) → Has t (drop m d)
Has_drop t zero zero d le h = h
Has_drop t zero (suc n) [] le h = h
Has_drop t zero (suc n) (x ∷ d) le h = inr (Has_drop t zero n d (omega arith) h)
Has_drop t (suc m) zero d le h = absurd (omega arith)
Has_drop t (suc m) (suc n) [] le h = h
Has_drop t (suc m) (suc n) (x ∷ d) le h = Has_drop t m n d (omega arith) h

Before_drop : (a b : Tag) (m n : ℕ) (d : List Tagged) → m ≤ n → Before a b (drop n d) → Before a b (drop m d)
Before_drop a b zero zero d le h = h
Before_drop a b zero (suc n) [] le h = h
Before_drop a b zero (suc n) (x ∷ d) le h = inr (Before_drop a b zero n d (omega arith) h)
Before_drop a b (suc m) zero d le h = absurd (omega arith)
Before_drop a b (suc m) (suc n) [] le h = h
Before_drop a b (suc m) (suc n) (x ∷ d) le h = Before_drop a b m n d (omega arith) h

from_items : (low base : ℕ) (items : List (Item Tagged)) (d : List Tagged) (t : Tag) → RisesFrom low base items → Has t (filter_map (value_in d) items) → Has t (drop low d) ⊎ Has t (news_of items)
from_items low base [] d t rises h = absurd h
from_items low base (New x ∷ items) d t rises (inl here) = inr (inl here)
from_items low base (New x ∷ items) d t rises (inr there) = elim (from_items low base items d t rises there) [ inl old ↦ inl old | inr new ↦ inr (inr new) ]
from_items low base (Old i ∷ items) d t rises h = go (slice_get d i) refl (from_items (suc i) base items d t rises.2) h
  where
    go : (o : Option Tagged) → slice_get d i ≡ o → (Has t (filter_map (value_in d) items) → Has t (drop (suc i) d) ⊎ Has t (news_of items)) → Has t (cons_option o (filter_map (value_in d) items)) → Has t (drop low d) ⊎ Has t (news_of items)
    go None e rest k = elim (rest k) [ inl old ↦ inl (Has_drop t low (suc i) d (omega arith) old) | inr new ↦ inr new ]
    go (Some x) e rest (inl here) = inl (Has_drop t low i d rises.0 (rw (drop_entry d i x e) (inl here)))
    go (Some x) e rest (inr there) = elim (rest there) [ inl old ↦ inl (Has_drop t low (suc i) d (omega arith) old) | inr new ↦ inr new ]

pub from : (z : Operation Tagged) (d : List Tagged) (t : Tag) → Fits z d → Has t (apply z d) → Has t d ⊎ Has t (news z)
unfolding apply
from z d t fits h = from_items 0 z.base z.image d t fits.rising h

keeps_items : (low base : ℕ) (items : List (Item Tagged)) (d : List Tagged) (a b : Tag) → RisesFrom low base items → Before a b (filter_map (value_in d) items) → (Has a (news_of items) → ⊥) → (Has b (news_of items) → ⊥) → Before a b (drop low d)
keeps_items low base [] d a b rises h no_a no_b = absurd h
keeps_items low base (New x ∷ items) d a b rises (inl here) no_a no_b = absurd (no_a (inl here.0))
keeps_items low base (New x ∷ items) d a b rises (inr there) no_a no_b = keeps_items low base items d a b rises there (λ k. no_a (inr k)) (λ k. no_b (inr k))
keeps_items low base (Old i ∷ items) d a b rises h no_a no_b = go (slice_get d i) refl (λ k. keeps_items (suc i) base items d a b rises.2 k no_a no_b) h
  where
    go : (o : Option Tagged) → slice_get d i ≡ o → (Before a b (filter_map (value_in d) items) → Before a b (drop (suc i) d)) → Before a b (cons_option o (filter_map (value_in d) items)) → Before a b (drop low d)
    go None e rest k = Before_drop a b low (suc i) d (omega arith) (rest k)
    go (Some x) e rest (inl here) = Before_drop a b low i d rises.0 (rw (drop_entry d i x e) (inl (here.0, elim (from_items (suc i) base items d b rises.2 here.1) [ inl old ↦ old | inr new ↦ absurd (no_b new) ])))
    go (Some x) e rest (inr there) = Before_drop a b low (suc i) d (omega arith) (rest there)

pub keeps : (z : Operation Tagged) (d : List Tagged) (a b : Tag) → Fits z d → Before a b (apply z d) → (Has a (news z) → ⊥) → (Has b (news z) → ⊥) → Before a b d
unfolding apply
keeps z d a b fits h no_a no_b = keeps_items 0 z.base z.image d a b fits.rising h no_a no_b

times_drop : (t : Tag) (m n : ℕ) (d : List Tagged) → m ≤ n → times t (drop n d) ≤ times t (drop m d)
times_drop t zero zero d le = omega arith
times_drop t zero (suc n) [] le = omega arith
times_drop t zero (suc n) (x ∷ d) le = let rest = times_drop t zero n d (omega arith) in let sum = sum_by-cons (λ y. cond (has_tag t y) 1 0) x d in omega arith
times_drop t (suc m) zero d le = absurd (omega arith)
times_drop t (suc m) (suc n) [] le = omega arith
times_drop t (suc m) (suc n) (x ∷ d) le = times_drop t m n d (omega arith)

times_items : (low base : ℕ) (items : List (Item Tagged)) (d : List Tagged) (t : Tag) → RisesFrom low base items → times t (filter_map (value_in d) items) ≤ times t (drop low d) + times t (news_of items)
times_items low base [] d t rises = omega arith
times_items low base (New x ∷ items) d t rises =
    let rest = times_items low base items d t rises in
    let one = sum_by-cons (λ y. cond (has_tag t y) 1 0) x (filter_map (value_in d) items) in
    let two = sum_by-cons (λ y. cond (has_tag t y) 1 0) x (news_of items) in
    omega arith
times_items low base (Old i ∷ items) d t rises = go (slice_get d i) refl (times_items (suc i) base items d t rises.2)
  where
    go : (o : Option Tagged) → slice_get d i ≡ o → times t (filter_map (value_in d) items) ≤ times t (drop (suc i) d) + times t (news_of items) → times t (cons_option o (filter_map (value_in d) items)) ≤ times t (drop low d) + times t (news_of items)
    go None e rest = let le = times_drop t low (suc i) d (omega arith) in omega arith
    go (Some x) e rest =
        let le = times_drop t low i d rises.0 in
        let here = ap (times t) (drop_entry d i x e) in
        let one = sum_by-cons (λ y. cond (has_tag t y) 1 0) x (filter_map (value_in d) items) in
        let two = sum_by-cons (λ y. cond (has_tag t y) 1 0) x (drop (suc i) d) in
        omega arith

pub apply_times : (z : Operation Tagged) (d : List Tagged) (t : Tag) → Fits z d → times t (apply z d) ≤ times t d + times t (news z)
unfolding apply
apply_times z d t fits = times_items 0 z.base z.image d t fits.rising

news_at : (items : List (Item Tagged)) (j : ℕ) (x : Tagged) → slice_get items j ≡ Some (New x) → Has x.tag (news_of items)
news_at [] j x e = absurd (cc)
news_at (Old i ∷ items) zero x e = absurd (cc)
news_at (New y ∷ items) zero x e = let s : y ≡ x = cc in inl (ap (λ (z : Tagged). z.tag) s)
news_at (Old i ∷ items) (suc j) x e = news_at items j x e
news_at (New y ∷ items) (suc j) x e = inr (news_at items j x e)

composed_items : (a items : List (Item Tagged)) (t : Tag) → Has t (news_of (filter_map (item_in a) items)) → Has t (news_of a) ⊎ Has t (news_of items)
composed_items a [] t h = absurd h
composed_items a (New x ∷ items) t (inl here) = inr (inl here)
composed_items a (New x ∷ items) t (inr there) = elim (composed_items a items t there) [ inl old ↦ inl old | inr new ↦ inr (inr new) ]
composed_items a (Old j ∷ items) t h = go (slice_get a j) refl (composed_items a items t) h
  where
    go : (o : Option (Item Tagged)) → slice_get a j ≡ o → (Has t (news_of (filter_map (item_in a) items)) → Has t (news_of a) ⊎ Has t (news_of items)) → Has t (news_of (cons_option o (filter_map (item_in a) items))) → Has t (news_of a) ⊎ Has t (news_of items)
    go None e rest k = rest k
    go (Some (Old i)) e rest k = rest k
    go (Some (New x)) e rest (inl here) = inl (subst (λ (u : Tag). Has u (news_of a)) here (news_at a j x e))
    go (Some (New x)) e rest (inr there) = rest there

pub order_laws : OrderLaws
unfolding apply compose
order_laws =
    record {
      keeps = keeps;
      from = from;
      compose_has = λ a b t rises_a rises_b h. composed_items a.image b.image t h;
      apply_times = apply_times;
    }
