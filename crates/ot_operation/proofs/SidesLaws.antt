-- What both operations keep stays in what each becomes, on the same side of each new element.
use Rattle.std.proofs.Common.{◌≡◌, ℕ, suc, zero, ◌+◌, ◌≤◌, List, [], ◌∷◌, ◌++◌, map, take, drop, Bool, true, false, cond, Option, Some, None, refl, sym, ap, ◌∙◌, subst, arith, inl, inr, nat_eq, eqb-true}
use Rattle.std.proofs.lemmas.Bool.{eq-eqb, ne_eqb}
use Rattle.std.proofs.lemmas.List.{append_cancel_left}
use Rattle.std.proofs.lemmas.Option.{same_Some}
use Rattle.std.specs.Prelude.{◌⊎◌}
use Rattle.std.specs.List.{filter_map, slice_get, cons_option}
use Rattle.ot_operation.specs.Operation.{Item, RisesFrom, news, place_from, place_of, Old, New}
use Rattle.ot_operation.proofs.InvertLaws.{place_stands}
use Rattle.ot_operation.proofs.Lists.{Each, StandsAt-whole}
use Rattle.ot_operation.specs.Merge.{Merged, merge, over_first, over_second, first_after, second_after}
use Rattle.ot_operation.specs.Merge.Merged.{First, Second, Both}
use Rattle.ot_operation.specs.Laws.{KeepsSides, TransformKeepsSides, TransformKeepsDeletions}
use Rattle.ot_operation.proofs.OrderLaws.{of_first, of_second, if_found, if_kept, merge-of_first, merge-of_second}
use Rattle.ot_operation.proofs.TransformLaws.{IsPlaced, merge_placed}
use Rattle.ot_operation.proofs.TransformedLaws.{news-first_after, news-second_after}

-- an image has Old i
abbrev HasOld : {A : Type 0} → ℕ → List (Item A) → Type 0
HasOld i [] = ⊥
HasOld i (New x ∷ image) = HasOld i image
HasOld i (Old j ∷ image) = (j ≡ i) ⊎ HasOld i image

-- the new elements before Old i
abbrev before : {A : Type 0} → ℕ → List (Item A) → List A
before i [] = []
before i (New x ∷ image) = x ∷ before i image
before i (Old j ∷ image) = cond (nat_eq j i) [] (before i image)

has_placed : {A : Type 0} (place i : ℕ) (image : List (Item A)) (p : ℕ) → place_from place image i ≡ Some p → HasOld i image
has_placed place i [] p e = absurd cc
has_placed place i (New x ∷ image) p e = has_placed (suc place) i image p e
has_placed place i (Old j ∷ image) p e = go (nat_eq j i) refl e (has_placed (suc place) i image p)
  where
    go :
        (b : Bool) → nat_eq j i ≡ b → cond b (Some place) (place_from (suc place) image i) ≡ Some p
        → (place_from (suc place) image i ≡ Some p → HasOld i image) → (j ≡ i) ⊎ HasOld i image
    go true same is later = inl (eqb-true j i same)
    go false other is later = inr (later is)

-- where Old i stands, and what is new before it
record Stands {A : Type 0} (i : ℕ) (image : List (Item A)) : Type 0 where
  at : ℕ
  place_is : (place : ℕ) → place_from place image i ≡ Some (place + at)
  before_is : news (take at image) ≡ before i image

stands : {A : Type 0} (i : ℕ) (image : List (Item A)) → HasOld i image → Stands i image
stands i [] has = absurd has
stands i (New x ∷ image) has =
    let rest = stands i image has in
    record {
      at = suc rest.at;
      place_is = λ place. rest.place_is (suc place) ∙ ap Some (let e : suc place + rest.at ≡ place + suc rest.at = omega arith in e);
      before_is = ap (λ more. x ∷ more) rest.before_is;
    }
stands i (Old j ∷ image) has = go (nat_eq j i) refl has (stands i image)
  where
    go : (b : Bool) → nat_eq j i ≡ b → (j ≡ i) ⊎ HasOld i image → (HasOld i image → Stands i image) → Stands i (Old j ∷ image)
    go true same is later =
        record {
          at = 0;
          place_is = λ place. let e : place ≡ place + 0 = omega arith in rw same (ap Some e);
          before_is = rw same refl;
        }
    go false other (inl here) later = absurd (let same = eq-eqb j i here in let wrong : true ≡ false = sym same ∙ other in cc)
    go false other (inr there) later =
        let rest = later there in
        record {
          at = suc rest.at;
          place_is = λ place. let e : suc place + rest.at ≡ place + suc rest.at = omega arith in rw other (rest.place_is (suc place) ∙ ap Some e);
          before_is = rw other rest.before_is;
        }

news_taken : {A : Type 0} (i p : ℕ) (image : List (Item A)) → place_of image i ≡ Some p → news (take p image) ≡ before i image
news_taken i p image e =
    let here = stands i image (has_placed 0 i image p e) in
    let is : p ≡ here.at = same_Some p here.at (sym e ∙ here.place_is 0 ∙ ap Some (let z : 0 + here.at ≡ here.at = omega arith in z)) in
    rw is here.before_is

-- among the items that the other keeps too

before_kept :
    {A : Type 0} (other : List (Item A)) (i q : ℕ) (image : List (Item A)) → place_of other i ≡ Some q
    → before i (filter_map (if_kept other) image) ≡ before i image
before_kept other i q [] e = refl
before_kept other i q (New x ∷ image) e = ap (λ more. x ∷ more) (before_kept other i q image e)
before_kept {A} other i q (Old j ∷ image) e = go (nat_eq j i) refl (place_of other j) refl (before_kept other i q image e)
  where
    rest : List (Item A)
    rest = filter_map (if_kept other) image

    go :
        (b : Bool) → nat_eq j i ≡ b → (o : Option ℕ) → place_of other j ≡ o
        → before i (filter_map (if_kept other) image) ≡ before i image
        → before i (cons_option (if_found o (Old j)) (filter_map (if_kept other) image)) ≡ cond b [] (before i image)
    go true same None none later =
        let is_i : j ≡ i = eqb-true j i same in
        let found : place_of other j ≡ Some q = ap (place_of other) is_i ∙ e in
        absurd cc
    go true same (Some r) some later = rw same refl
    go false other_than None none later = later
    go false other_than (Some r) some later = rw other_than later

has_kept :
    {A : Type 0} (other : List (Item A)) (i q : ℕ) (image : List (Item A)) → place_of other i ≡ Some q
    → HasOld i image → HasOld i (filter_map (if_kept other) image)
has_kept other i q [] e has = has
has_kept other i q (New x ∷ image) e has = has_kept other i q image e has
has_kept {A} other i q (Old j ∷ image) e (inl here) =
    let found : place_of other j ≡ Some q = ap (place_of other) here ∙ e in
    subst (λ (o : Option ℕ). HasOld i (cons_option (if_found o (Old j)) (filter_map (if_kept other) image))) (sym found) (inl here)
has_kept {A} other i q (Old j ∷ image) e (inr there) = go (place_of other j) (has_kept other i q image e there)
  where
    go :
        (o : Option ℕ) → HasOld i (filter_map (if_kept other) image)
        → HasOld i (cons_option (if_found o (Old j)) (filter_map (if_kept other) image))
    go None later = later
    go (Some r) later = inr later

kept_has :
    {A : Type 0} (other : List (Item A)) (i : ℕ) (image : List (Item A)) → HasOld i (filter_map (if_kept other) image) → HasOld i image
kept_has other i [] has = has
kept_has other i (New x ∷ image) has = kept_has other i image has
kept_has {A} other i (Old j ∷ image) has = go (place_of other j) (kept_has other i image) has
  where
    go :
        (o : Option ℕ) → (HasOld i (filter_map (if_kept other) image) → HasOld i image)
        → HasOld i (cons_option (if_found o (Old j)) (filter_map (if_kept other) image)) → (j ≡ i) ⊎ HasOld i image
    go None later h = inr (later h)
    go (Some r) later (inl here) = inl here
    go (Some r) later (inr there) = inr (later there)

-- an image has each Old once

pub old_from : {A : Type 0} (low base : ℕ) (image : List (Item A)) (i p : ℕ) → RisesFrom low base image → slice_get image p ≡ Some (Old i) → low ≤ i
old_from low base [] i p rises e = absurd cc
old_from low base (New x ∷ image) i zero rises e = absurd cc
old_from low base (New x ∷ image) i (suc p) rises e = old_from low base image i p rises e
old_from low base (Old j ∷ image) i zero rises e =
    let is : j ≡ i = cc in omega (arith, is, rises.0)
old_from low base (Old j ∷ image) i (suc p) rises e = let more = old_from (suc j) base image i p rises.2 e in omega (arith, more, rises.0)

once :
    {A : Type 0} (low base : ℕ) (image : List (Item A)) (i p q : ℕ) → RisesFrom low base image
    → slice_get image p ≡ Some (Old i) → slice_get image q ≡ Some (Old i) → p ≡ q
once low base [] i p q rises e f = absurd cc
once low base (item ∷ image) i zero zero rises e f = refl
once low base (New x ∷ image) i zero (suc q) rises e f = absurd cc
once low base (New x ∷ image) i (suc p) zero rises e f = absurd cc
once low base (New x ∷ image) i (suc p) (suc q) rises e f = ap suc (once low base image i p q rises e f)
once low base (Old j ∷ image) i zero (suc q) rises e f =
    let is : j ≡ i = cc in let more = old_from (suc j) base image i q rises.2 f in absurd (omega (arith, is, more))
once low base (Old j ∷ image) i (suc p) zero rises e f =
    let is : j ≡ i = cc in let more = old_from (suc j) base image i p rises.2 e in absurd (omega (arith, is, more))
once low base (Old j ∷ image) i (suc p) (suc q) rises e f = ap suc (once (suc j) base image i p q rises.2 e f)

no_new : {A : Type 0} (image : List (Item A)) (i p q : ℕ) (x : A) → slice_get image p ≡ Some (Old i) → slice_get image q ≡ Some (New x) → q ≡ p → ⊥
no_new {A} image i p q x e f same =
    let there : slice_get image p ≡ Some (New x) = subst (λ (k : ℕ). slice_get image k ≡ Some (New x)) same f in
    let wrong : ◌≡◌ {A = Item A} (Old i) (New x) = same_Some (Old i) (New x) (sym e ∙ there) in
    cc

-- two items of an image that are Olds are one where their places are
alike :
    {A : Type 0} (base : ℕ) (image : List (Item A)) (i j p q : ℕ) → RisesFrom 0 base image
    → slice_get image p ≡ Some (Old i) → slice_get image q ≡ Some (Old j) → nat_eq q p ≡ nat_eq j i
alike {A} base image i j p q rises e f = go (nat_eq q p) refl
  where
    go : (b : Bool) → nat_eq q p ≡ b → b ≡ nat_eq j i
    go true same =
        let place : q ≡ p = eqb-true q p same in
        let there : slice_get image p ≡ Some (Old j) = subst (λ (k : ℕ). slice_get image k ≡ Some (Old j)) place f in
        let item : ◌≡◌ {A = Item A} (Old j) (Old i) = same_Some (Old j) (Old i) (sym there ∙ e) in
        let is : j ≡ i = cc in
        sym (eq-eqb j i is)
    go false other =
        sym
        (ne_eqb j i (λ (is : j ≡ i).
        let there : slice_get image q ≡ Some (Old i) = subst (λ (k : ℕ). slice_get image q ≡ Some (Old k)) is f in
        let place : q ≡ p = once 0 base image i q p rises there e in
        let wrong : true ≡ false = sym (eq-eqb q p place) ∙ other in
        absurd cc))

-- the items of a merge, over the document and over the other image

before_first :
    {A : Type 0} (a b : List (Item A)) (base i q : ℕ) (items : List (Merged A)) → RisesFrom 0 base b → slice_get b q ≡ Some (Old i)
    → Each (IsPlaced a b) items → before q (map over_second items) ≡ before i (filter_map of_first items)
before_first a b base i q [] rises at placed = refl
before_first a b base i q (First place x ∷ items) rises at placed = ap (λ more. x ∷ more) (before_first a b base i q items rises at placed.1)
before_first a b base i q (Second place x ∷ items) rises at placed =
    let other : nat_eq place q ≡ false = ne_eqb place q (no_new b i q place x at placed.0) in
    rw other (before_first a b base i q items rises at placed.1)
before_first a b base i q (Both j r s ∷ items) rises at placed =
    let same : nat_eq s q ≡ nat_eq j i = alike base b i j q s rises at placed.0.1 in
    let later = before_first a b base i q items rises at placed.1 in
    rw (same, later) refl

has_first :
    {A : Type 0} (a b : List (Item A)) (base i q : ℕ) (items : List (Merged A)) → RisesFrom 0 base b → slice_get b q ≡ Some (Old i)
    → Each (IsPlaced a b) items → HasOld i (filter_map of_first items) → HasOld q (map over_second items)
has_first a b base i q [] rises at placed has = has
has_first a b base i q (First place x ∷ items) rises at placed has = has_first a b base i q items rises at placed.1 has
has_first a b base i q (Second place x ∷ items) rises at placed has = inr (has_first a b base i q items rises at placed.1 has)
has_first a b base i q (Both j r s ∷ items) rises at placed (inl here) =
    inl (once 0 base b i s q rises (subst (λ (k : ℕ). slice_get b s ≡ Some (Old k)) here placed.0.1) at)
has_first a b base i q (Both j r s ∷ items) rises at placed (inr there) = inr (has_first a b base i q items rises at placed.1 there)

first_has :
    {A : Type 0} (a b : List (Item A)) (i q : ℕ) (items : List (Merged A)) → slice_get b q ≡ Some (Old i)
    → Each (IsPlaced a b) items → HasOld q (map over_second items) → HasOld i (filter_map of_first items)
first_has a b i q [] at placed has = has
first_has a b i q (First place x ∷ items) at placed has = first_has a b i q items at placed.1 has
first_has a b i q (Second place x ∷ items) at placed (inl here) = absurd (no_new b i q place x at placed.0 here)
first_has a b i q (Second place x ∷ items) at placed (inr there) = first_has a b i q items at placed.1 there
first_has {A} a b i q (Both j r s ∷ items) at placed (inl here) =
    let there : slice_get b q ≡ Some (Old j) = subst (λ (k : ℕ). slice_get b k ≡ Some (Old j)) here placed.0.1 in
    let item : ◌≡◌ {A = Item A} (Old j) (Old i) = same_Some (Old j) (Old i) (sym there ∙ at) in
    inl (let is : j ≡ i = cc in is)
first_has a b i q (Both j r s ∷ items) at placed (inr there) = inr (first_has a b i q items at placed.1 there)

before_second :
    {A : Type 0} (a b : List (Item A)) (base i p : ℕ) (items : List (Merged A)) → RisesFrom 0 base a → slice_get a p ≡ Some (Old i)
    → Each (IsPlaced a b) items → before p (map over_first items) ≡ before i (filter_map of_second items)
before_second a b base i p [] rises at placed = refl
before_second a b base i p (Second place x ∷ items) rises at placed = ap (λ more. x ∷ more) (before_second a b base i p items rises at placed.1)
before_second a b base i p (First place x ∷ items) rises at placed =
    let other : nat_eq place p ≡ false = ne_eqb place p (no_new a i p place x at placed.0) in
    rw other (before_second a b base i p items rises at placed.1)
before_second a b base i p (Both j r s ∷ items) rises at placed =
    let same : nat_eq r p ≡ nat_eq j i = alike base a i j p r rises at placed.0.0 in
    let later = before_second a b base i p items rises at placed.1 in
    rw (same, later) refl

has_second :
    {A : Type 0} (a b : List (Item A)) (base i p : ℕ) (items : List (Merged A)) → RisesFrom 0 base a → slice_get a p ≡ Some (Old i)
    → Each (IsPlaced a b) items → HasOld i (filter_map of_second items) → HasOld p (map over_first items)
has_second a b base i p [] rises at placed has = has
has_second a b base i p (Second place x ∷ items) rises at placed has = has_second a b base i p items rises at placed.1 has
has_second a b base i p (First place x ∷ items) rises at placed has = inr (has_second a b base i p items rises at placed.1 has)
has_second a b base i p (Both j r s ∷ items) rises at placed (inl here) =
    inl (once 0 base a i r p rises (subst (λ (k : ℕ). slice_get a r ≡ Some (Old k)) here placed.0.0) at)
has_second a b base i p (Both j r s ∷ items) rises at placed (inr there) = inr (has_second a b base i p items rises at placed.1 there)

second_has :
    {A : Type 0} (a b : List (Item A)) (i p : ℕ) (items : List (Merged A)) → slice_get a p ≡ Some (Old i)
    → Each (IsPlaced a b) items → HasOld p (map over_first items) → HasOld i (filter_map of_second items)
second_has a b i p [] at placed has = has
second_has a b i p (Second place x ∷ items) at placed has = second_has a b i p items at placed.1 has
second_has a b i p (First place x ∷ items) at placed (inl here) = absurd (no_new a i p place x at placed.0 here)
second_has a b i p (First place x ∷ items) at placed (inr there) = second_has a b i p items at placed.1 there
second_has {A} a b i p (Both j r s ∷ items) at placed (inl here) =
    let there : slice_get a p ≡ Some (Old j) = subst (λ (k : ℕ). slice_get a k ≡ Some (Old j)) here placed.0.0 in
    let item : ◌≡◌ {A = Item A} (Old j) (Old i) = same_Some (Old j) (Old i) (sym there ∙ at) in
    inl (let is : j ≡ i = cc in is)
second_has a b i p (Both j r s ∷ items) at placed (inr there) = inr (second_has a b i p items at placed.1 there)

-- the laws

news_split : {A : Type 0} (p : ℕ) (image : List (Item A)) → news (take p image) ++ news (drop p image) ≡ news image
news_split zero image = refl
news_split (suc p) [] = refl
news_split (suc p) (New x ∷ image) = ap (λ more. x ∷ more) (news_split p image)
news_split (suc p) (Old i ∷ image) = news_split p image

keeps_sides :
    {A : Type 0} (image later : List (Item A)) (i p q : ℕ) → place_of image i ≡ Some p → HasOld q later
    → before q later ≡ before i image → news later ≡ news image → KeepsSides image p later q
keeps_sides image later i p q e has same inserts =
    let there = stands q later has in
    let sides : news (take p image) ≡ news (take there.at later) = news_taken i p image e ∙ sym same ∙ sym there.before_is in
    let whole : news (take p image) ++ news (drop p image) ≡ news (take p image) ++ news (drop there.at later) =
    news_split p image ∙ sym inserts ∙ sym (news_split there.at later) ∙ ap (λ front. front ++ news (drop there.at later)) (sym sides) in
    (there.at, there.place_is 0 ∙ ap Some (let z : 0 + there.at ≡ there.at = omega arith in z), sides, append_cancel_left (news (take p image)) (news (drop p image)) (news (drop there.at later)) whole)

pub transform_keeps_sides : {A : Type 0} → TransformKeepsSides A
unfolding first_after second_after
transform_keeps_sides a b i p q a_rises b_rises same in_a in_b =
    let at_a = place_stands a.image 0 a.image i (StandsAt-whole a.image) p in_a in
    let at_b = place_stands b.image 0 b.image i (StandsAt-whole b.image) q in_b in
    let placed = merge_placed a b in
    let firsts = merge-of_first a b a_rises b_rises same in
    let seconds = merge-of_second a b a_rises b_rises same in
    let has_a = has_kept b.image i q a.image in_b (has_placed 0 i a.image p in_a) in
    let has_b = has_kept a.image i p b.image in_a (has_placed 0 i b.image q in_b) in (
      keeps_sides a.image (map over_second (merge a b)) i p q in_a
          (has_first a.image b.image b.base i q (merge a b) b_rises at_b placed (subst (HasOld i) (sym firsts) has_a))
          (before_first a.image b.image b.base i q (merge a b) b_rises at_b placed ∙ ap (before i) firsts ∙ before_kept b.image i q a.image in_b)
          (news-first_after a b a_rises b_rises same),
      keeps_sides b.image (map over_first (merge a b)) i q p in_b
          (has_second a.image b.image a.base i p (merge a b) a_rises at_a placed (subst (HasOld i) (sym seconds) has_b))
          (before_second a.image b.image a.base i p (merge a b) a_rises at_a placed ∙ ap (before i) seconds ∙ before_kept a.image i p b.image in_a)
          (news-second_after a b a_rises b_rises same),
    )

absent : {A : Type 0} (i : ℕ) (image : List (Item A)) → (HasOld i image → ⊥) → place_of image i ≡ None
absent i image not_here = go (place_of image i) refl
  where
    go : (o : Option ℕ) → place_of image i ≡ o → o ≡ None
    go None e = refl
    go (Some p) e = absurd (not_here (has_placed 0 i image p e))

not_had : {A : Type 0} (i : ℕ) (image : List (Item A)) → place_of image i ≡ None → HasOld i image → ⊥
not_had i image none has = let here = (stands i image has).place_is 0 in absurd cc

pub transform_keeps_deletions : {A : Type 0} → TransformKeepsDeletions A
unfolding first_after second_after
transform_keeps_deletions a b i p a_rises b_rises same = (
  λ none in_b. absent p (map over_second (merge a b)) (λ has.
      not_had i a.image none (kept_has b.image i a.image (subst (HasOld i) (merge-of_first a b a_rises b_rises same)
      (first_has a.image b.image i p (merge a b) (place_stands b.image 0 b.image i (StandsAt-whole b.image) p in_b) (merge_placed a b) has)))),
  λ none in_a. absent p (map over_first (merge a b)) (λ has.
      not_had i b.image none (kept_has a.image i b.image (subst (HasOld i) (merge-of_second a b a_rises b_rises same)
      (second_has a.image b.image i p (merge a b) (place_stands a.image 0 a.image i (StandsAt-whole a.image) p in_a) (merge_placed a b) has)))),
)
