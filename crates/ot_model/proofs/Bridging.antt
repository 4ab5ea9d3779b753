-- Tags of elements, as events have them.
use Rattle.std.proofs.Common.{◌≡◌, ℕ, zero, suc, ◌+◌, ◌<◌, ◌≤◌, List, [], ◌∷◌, length, map, filter, refl, sym, ap, subst, arith, inl, inr, Some, Bool, true, false}
use Rattle.std.proofs.lemmas.Bool.{eqb-true, eq-eqb, and_from, and_parts}
use Rattle.std.specs.Prelude.{◌||◌, slice_get, not, ◌==◌, if◌then◌else◌}
use Rattle.ot_model.specs.Operation.{Item, Old, New}
use Rattle.ot_operation.specs.Operation as text
use Rattle.ot_isa.specs.declared.elements.Tag.{Tag}
use Rattle.ot_isa.specs.declared.elements.Tagged.{Tagged}
use Rattle.ot_isa.specs.Tagging.{tagged_items}
use Rattle.ot_model.proofs.Vertices.{Has, Before}
use Rattle.ot_model.proofs.Traces.{In, Stands}
use Rattle.ot_model.specs.Trace.{same_tag, contains}
use Rattle.ot_model.specs.Events.{tags, insertions_from}
use Rattle.ot_model.proofs.Merging.{same_origin}

pub In_has : (t : Tag) (w : List Tagged) → In t (tags w) → Has t w
In_has t [] h = h
In_has t (x ∷ w) (inl here) = inl here
In_has t (x ∷ w) (inr there) = inr (In_has t w there)

pub Has_in : (t : Tag) (w : List Tagged) → Has t w → In t (tags w)
Has_in t [] h = h
Has_in t (x ∷ w) (inl here) = inl here
Has_in t (x ∷ w) (inr there) = inr (Has_in t w there)

pub Stands_before : (a b : Tag) (w : List Tagged) → Stands a b (tags w) → Before a b w
Stands_before a b [] h = h
Stands_before a b (x ∷ w) (inl here) = inl (here.0, In_has b w here.1)
Stands_before a b (x ∷ w) (inr there) = inr (Stands_before a b w there)

-- a tag at two places stands before itself
pub In_at : (t : Tag) (xs : List Tag) (i : ℕ) → slice_get xs i ≡ Some t → In t xs
In_at t [] i e = absurd (cc)
In_at t (u ∷ xs) zero e = inl (cc)
In_at t (u ∷ xs) (suc i) e = inr (In_at t xs i e)

pub Stands_twice : (t : Tag) (xs : List Tag) (i j : ℕ) → i < j → slice_get xs i ≡ Some t → slice_get xs j ≡ Some t → Stands t t xs
Stands_twice t [] i j below e f = absurd (cc)
Stands_twice t (u ∷ xs) i zero below e f = absurd (omega arith)
Stands_twice t (u ∷ xs) zero (suc j) below e f = inl (cc, In_at t xs j f)
Stands_twice t (u ∷ xs) (suc i) (suc j) below e f = inr (Stands_twice t xs i j (omega arith) e f)

-- tags in lists, by tests
pub same_yes : (a b : Tag) → a ≡ b → same_tag a b ≡ true
same_yes a b e = and_from _ _ (eq-eqb a.origin b.origin (ap (λ (t : Tag). t.origin) e)) (eq-eqb a.serial b.serial (ap (λ (t : Tag). t.serial) e))

pub same_is : (a b : Tag) → same_tag a b ≡ true → a ≡ b
same_is a b e = let parts = and_parts (a.origin == b.origin) (a.serial == b.serial) e in same_origin a b (eqb-true a.origin b.origin parts.0) (eqb-true a.serial b.serial parts.1)

pub contains_in : (xs : List Tag) (t : Tag) → contains xs t ≡ true → In t xs
contains_in [] t e = absurd (cc)
contains_in (x ∷ xs) t e = go (same_tag t x) refl (contains_in xs t) e
  where
    go : (b : Bool) → same_tag t x ≡ b → (contains xs t ≡ true → In t xs) → (b || contains xs t) ≡ true → In t (x ∷ xs)
    go true is rest e = inl (sym (same_is t x is))
    go false is rest e = inr (rest e)

pub in_contains : (xs : List Tag) (t : Tag) → In t xs → contains xs t ≡ true
in_contains [] t h = absurd h
in_contains (x ∷ xs) t (inl here) = go (same_tag t x) (same_yes t x (sym here))
  where
    go : (b : Bool) → b ≡ true → (b || contains xs t) ≡ true
    go true e = refl
    go false e = absurd (cc)
in_contains (x ∷ xs) t (inr there) = go (same_tag t x) (in_contains xs t there)
  where
    go : (b : Bool) → contains xs t ≡ true → (b || contains xs t) ≡ true
    go true e = refl
    go false e = e

pub filter_in : (p : Tag → Bool) (t : Tag) (xs : List Tag) → In t (filter p xs) → In t xs × (p t ≡ true)
filter_in p t [] h = absurd h
filter_in p t (u ∷ xs) h = go (p u) refl (filter_in p t xs) h
  where
    go : (b : Bool) → p u ≡ b → (In t (filter p xs) → In t xs × (p t ≡ true)) → In t (if b then u ∷ filter p xs else filter p xs) → In t (u ∷ xs) × (p t ≡ true)
    go true e rest (inl here) = (inl here, subst (λ (v : Tag). p v ≡ true) here e)
    go true e rest (inr there) = let r = rest there in (inr r.0, r.1)
    go false e rest k = let r = rest k in (inr r.0, r.1)

pub in_filter : (p : Tag → Bool) (t : Tag) (xs : List Tag) → In t xs → p t ≡ true → In t (filter p xs)
in_filter p t [] h e = h
in_filter p t (u ∷ xs) (inl here) e = go (p u) (subst (λ (v : Tag). p v ≡ true) (sym here) e)
  where
    go : (b : Bool) → b ≡ true → In t (if b then u ∷ filter p xs else filter p xs)
    go true e = inl here
    go false e = absurd (cc)
in_filter p t (u ∷ xs) (inr there) e = go (p u) (in_filter p t xs there e)
  where
    go : (b : Bool) → In t (filter p xs) → In t (if b then u ∷ filter p xs else filter p xs)
    go true k = inr k
    go false k = k

-- what is gone from a list
pub gone_not : (t : Tag) (v w : List Tagged) → In t (filter (λ u. not (contains (tags w) u)) (tags v)) → Has t v × (Has t w → ⊥)
gone_not t v w h =
    let parts = filter_in (λ u. not (contains (tags w) u)) t (tags v) h in
    (In_has t v parts.0, λ k. no_both (contains (tags w) t) (in_contains (tags w) t (Has_in t w k)) parts.1)
  where
    no_both : (b : Bool) → b ≡ true → not b ≡ true → ⊥
    no_both true e f = absurd (cc)
    no_both false e f = absurd (cc)

pub not_gone : (t : Tag) (v w : List Tagged) → Has t v → (Has t w → ⊥) → In t (filter (λ u. not (contains (tags w) u)) (tags v))
not_gone t v w h none = in_filter (λ u. not (contains (tags w) u)) t (tags v) (Has_in t v h) (go (contains (tags w) t) refl)
  where
    go : (b : Bool) → contains (tags w) t ≡ b → not b ≡ true
    go true e = absurd (none (In_has t w (contains_in (tags w) t e)))
    go false e = refl

-- what an operation's insertions are
pub inserts_in : (t : Tag) (p : ℕ) (items : List (Item Tagged)) → In t (map (λ i. i.tag) (insertions_from p items)) → Has t (text.news items)
inserts_in t p [] h = h
inserts_in t p (Old i ∷ items) h = inserts_in t (suc p) items h
inserts_in t p (New x ∷ items) (inl here) = inl here
inserts_in t p (New x ∷ items) (inr there) = inr (inserts_in t (suc p) items there)

pub in_inserts : (t : Tag) (p : ℕ) (items : List (Item Tagged)) → Has t (text.news items) → In t (map (λ i. i.tag) (insertions_from p items))
in_inserts t p [] h = h
in_inserts t p (Old i ∷ items) h = in_inserts t (suc p) items h
in_inserts t p (New x ∷ items) (inl here) = inl here
in_inserts t p (New x ∷ items) (inr there) = inr (in_inserts t (suc p) items there)

-- the tags of an edit: its maker's next serials
pub own_tags : (t : Tag) (c k : ℕ) (items : List (Item ℕ)) → Has t (text.news (tagged_items c k items)) → (t.origin ≡ c) × (k ≤ t.serial) × (t.serial < k + length (text.news (tagged_items c k items)))
own_tags t c k [] h = absurd h
own_tags t c k (Old i ∷ items) h = own_tags t c k items h
own_tags t c k (New ch ∷ items) (inl here) =
    let a = ap (λ (u : Tag). u.origin) here in
    let b = ap (λ (u : Tag). u.serial) here in
    (sym a, omega arith, omega arith)
own_tags t c k (New ch ∷ items) (inr there) = let r = own_tags t c (suc k) items there in let a = r.1 in let b = r.2 in (r.0, omega arith, omega arith)
