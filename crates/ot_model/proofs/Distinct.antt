-- No tag is inserted twice: in one list.
use Rattle.std.proofs.Common.{◌≡◌, ℕ, zero, suc, ◌≢◌, List, [], ◌∷◌, ◌++◌, map, refl, sym, ap, ◌∙◌, subst, arith, inl, inr, Some}
use Rattle.std.proofs.lemmas.Option.{same_Some, slice_get-get_or}
use Rattle.std.proofs.lemmas.List.Kept.{AllPairs-cons}
use Rattle.std.specs.Prelude.{slice_get, flat_map, AllPairs}
use Rattle.ot_isa.specs.declared.elements.Tag.{Tag}
use Rattle.ot_model.specs.Trace.{EventView}
use Rattle.ot_model.specs.declared.trace.Placed.{Placed}
use Rattle.ot_model.proofs.Traces.{In, IsShapedTrace}
use Rattle.ot_model.specs.Trace.{inserted_tags}
use Rattle.ot_model.proofs.Bridging.{In_at}
use Rattle.ot_model.proofs.Judging.{In_append}

abbrev pub Once : List Tag → Type 0
Once [] = Unit {0}
Once (x ∷ xs) = (In x xs → ⊥) × Once xs

once_append : (xs ys : List Tag) → Once xs → Once ys → ((t : Tag) → In t xs → In t ys → ⊥) → Once (xs ++ ys)
once_append [] ys first second apart = second
once_append (x ∷ xs) ys first second apart =
    (λ h. elim (In_append x xs ys h) [ inl a ↦ first.0 a | inr b ↦ apart x (inl refl) b ], once_append xs ys first.1 second (λ t h k. apart t (inr h) k))

in_place : (t : Tag) (xs : List Tag) → In t xs → (i : ℕ) × (slice_get xs i ≡ Some t)
in_place t [] h = absurd h
in_place t (x ∷ xs) (inl here) = (0, ap Some here)
in_place t (x ∷ xs) (inr there) = let rest = in_place t xs there in (suc rest.0, rest.1)

once_from : (xs : List Tag) → ((i j : ℕ) (t : Tag) → slice_get xs i ≡ Some t → slice_get xs j ≡ Some t → i ≡ j) → Once xs
once_from [] once = tt
once_from (x ∷ xs) once = (
  λ h. let found = in_place x xs h in let same : 0 ≡ suc found.0 = once 0 (suc found.0) x refl found.1 in absurd (omega arith),
  once_from xs (λ i j t e f. let same : suc i ≡ suc j = once (suc i) (suc j) t e f in omega arith),
)

insertion_place : (t : Tag) (xs : List Placed) → In t (map (λ (p : Placed). p.tag) xs) → (i : ℕ) × (n : Placed) × (slice_get xs i ≡ Some n) × (n.tag ≡ t)
insertion_place t [] h = absurd h
insertion_place t (x ∷ xs) (inl here) = (0, x, refl, here)
insertion_place t (x ∷ xs) (inr there) = let rest = insertion_place t xs there in (suc rest.0, rest.1, rest.2, rest.3)

tag_at : (xs : List Placed) (i : ℕ) (t : Tag) → slice_get (map (λ (p : Placed). p.tag) xs) i ≡ Some t → (n : Placed) × (slice_get xs i ≡ Some n) × (n.tag ≡ t)
tag_at [] i t e = absurd (cc)
tag_at (x ∷ xs) zero t e = (x, refl, same_Some x.tag t e)
tag_at (x ∷ xs) (suc i) t e = tag_at xs i t e

event_place : (t : Tag) (events : List EventView) → In t (flat_map inserted_tags events) → (p : ℕ) × (e : EventView) × (slice_get events p ≡ Some e) × In t (inserted_tags e)
event_place t [] h = absurd h
event_place t (x ∷ events) h = elim (In_append t (inserted_tags x) (flat_map inserted_tags events) h) [
  | inl here ↦ (0, x, refl, here)
  | inr there ↦ let rest = event_place t events there in (suc rest.0, rest.1, rest.2, rest.3)
]

abbrev Apart : List EventView → Type 0
Apart events = (p q i j : ℕ) (e d : EventView) (m n : Placed) → slice_get events p ≡ Some e → slice_get events q ≡ Some d → slice_get e.inserted i ≡ Some m → slice_get d.inserted j ≡ Some n → m.tag ≡ n.tag → (p ≡ q) × (i ≡ j)

once_events : (events : List EventView) → Apart events → Once (flat_map inserted_tags events)
once_events [] apart = tt
once_events (x ∷ events) apart =
    once_append (inserted_tags x) (flat_map inserted_tags events)
    (once_from (inserted_tags x) (λ i j t e f.
    let a = tag_at x.inserted i t e in
    let b = tag_at x.inserted j t f in
    (apart 0 0 i j x x a.0 b.0 refl refl a.1 b.1 (a.2 ∙ sym b.2)).1))
    (once_events events (λ p q i j e d m n at at' h k same.
    let both = apart (suc p) (suc q) i j e d m n at at' h k same in
    let a = both.0 in
    (omega arith, both.1)))
    (λ t h k.
    let here = insertion_place t x.inserted h in
    let far = event_place t events k in
    let there = insertion_place t (far.1).inserted far.3 in
    let both = apart 0 (suc far.0) here.0 there.0 x far.1 here.1 there.1 refl far.2 here.2 there.2 (here.3 ∙ sym there.3) in
    let a = both.0 in
    absurd (omega arith))

once_pairs : (xs : List Tag) → Once xs → AllPairs (λ a b. a ≢ b) xs
once_pairs [] once = λ i j d low high. absurd (omega arith)
once_pairs (x ∷ xs) once =
    AllPairs-cons (λ a b. a ≢ b) x xs (λ k d below e. once.0 (In_at x xs k (slice_get-get_or xs k d below ∙ ap Some (sym e)))) (once_pairs xs once.1)

-- in the judge's form
pub inserted_once : (replicas : ℕ) (start : List Tag) (events : List EventView) → IsShapedTrace replicas start events → AllPairs (λ a b. a ≢ b) (start ++ flat_map inserted_tags events)
inserted_once replicas start events shape =
    once_pairs (start ++ flat_map inserted_tags events)
    (once_append start (flat_map inserted_tags events) (once_from start shape.start_once) (once_events events shape.once)
    (λ t h k.
    let far = event_place t events k in
    let there = insertion_place t (far.1).inserted far.3 in
    shape.fresh far.0 there.0 far.1 there.1 far.2 there.2 (subst (λ (u : Tag). In u start) (sym there.3) h)))
