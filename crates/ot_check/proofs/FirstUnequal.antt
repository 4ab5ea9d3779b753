-- Where two lists first differ.
use Rattle.std.proofs.Common.{◌≡◌, ℕ, zero, suc, ◌+◌, ◌<◌, List, [], ◌∷◌, length, refl, sym, ap, ◌∙◌, cond, arith, Bool, true, inl, inr, min, eq-eqb}
use Rattle.std.specs.Prelude.{Option, Some, None, slice_get, ◌==◌}
use Rattle.std.specs.Option.{option_map}
use Rattle.std.proofs.lemmas.Bool.{cases_eq, cases_Bool, eqb-true, and_parts, and_from}
use Rattle.std.proofs.lemmas.Option.{same_Some}
use Rattle.ot_isa.specs.declared.elements.Tag.{Tag}
use Rattle.ot_isa.specs.declared.elements.Tagged.{Tagged}
use Rattle.ot_model.specs.Trace.{same_tag}
use Rattle.ot_judge.proofs.TagLemmas.{same_tag-refl, same_tag-true}
use Rattle.ot_check.specs.Convergence.{same, first_unequal}

pub same-refl : (x : Tagged) → same x x ≡ true
same-refl x = and_from _ _ (eq-eqb x.ch x.ch refl) (same_tag-refl x.tag)

pub same-true : (x y : Tagged) → same x y ≡ true → x ≡ y
same-true x y h =
    let parts = and_parts (x.ch == y.ch) (same_tag x.tag y.tag) h in
    let made : ℕ → Tag → Tagged = λ ch tag. record { ch = ch; tag = tag } in
    ap (λ (n : ℕ). made n x.tag) (eqb-true x.ch y.ch parts.0) ∙ ap (λ (t : Tag). made y.ch t) (same_tag-true x.tag y.tag parts.1)

abbrev picked : Bool → Option ℕ → Option ℕ
picked b rest = cond b (option_map suc rest) (Some 0)

pub first_unequal-refl : (xs : List Tagged) → first_unequal xs xs ≡ None
first_unequal-refl [] = refl
first_unequal-refl (x ∷ xs) = ap (λ (b : Bool). picked b (first_unequal xs xs)) (same-refl x) ∙ ap (option_map suc) (first_unequal-refl xs)

-- lists that are equal below a place, and differ there
pub first_unequal-at : (xs ys : List Tagged) (k : ℕ) → ((i : ℕ) → i < k → slice_get xs i ≡ slice_get ys i) → k < length xs → k < length ys → (slice_get xs k ≡ slice_get ys k → ⊥) → first_unequal xs ys ≡ Some k
first_unequal-at [] ys k below a b other = absurd (omega arith)
first_unequal-at (x ∷ xs) [] k below a b other = absurd (omega arith)
first_unequal-at (x ∷ xs) (y ∷ ys) zero below a b other = elim (cases_Bool (same x y)) [
  | inl one ↦ absurd (other (ap Some (same-true x y one)))
  | inr not_one ↦ ap (λ (b : Bool). picked b (first_unequal xs ys)) not_one
]
first_unequal-at (x ∷ xs) (y ∷ ys) (suc k) below a b other =
    let one : x ≡ y = same_Some x y (below 0 (omega arith)) in
    ap (λ (b : Bool). picked b (first_unequal xs ys)) (ap (same x) (sym one) ∙ same-refl x)
    ∙ ap (option_map suc) (first_unequal-at xs ys k (λ i lt. below (suc i) (omega arith)) (omega arith) (omega arith) other)

-- lists that are equal up to the end of the shorter, and not as long
pub first_unequal-end : (xs ys : List Tagged) (k : ℕ) → k ≡ min (length xs) (length ys) → ((i : ℕ) → i < k → slice_get xs i ≡ slice_get ys i) → (xs ≡ ys → ⊥) → first_unequal xs ys ≡ Some k
first_unequal-end [] [] k is below other = absurd (other refl)
first_unequal-end [] (y ∷ ys) k is below other = ap Some (sym (is ∙ omega arith))
first_unequal-end (x ∷ xs) [] k is below other = ap Some (sym (is ∙ omega arith))
first_unequal-end (x ∷ xs) (y ∷ ys) zero is below other = absurd (omega arith)
first_unequal-end (x ∷ xs) (y ∷ ys) (suc k) is below other =
    let one : x ≡ y = same_Some x y (below 0 (omega arith)) in
    ap (λ (b : Bool). picked b (first_unequal xs ys)) (ap (same x) (sym one) ∙ same-refl x)
    ∙ ap (option_map suc) (first_unequal-end xs ys k (omega arith) (λ i lt. below (suc i) (omega arith)) (λ e. other (rw (one, e) refl)))

pub one_more : (xs ys : List Tagged) (k : ℕ) → ((i : ℕ) → i < k → slice_get xs i ≡ slice_get ys i) → slice_get xs k ≡ slice_get ys k → (i : ℕ) → i < k + 1 → slice_get xs i ≡ slice_get ys i
one_more xs ys k below here i lt = elim (cases_eq i k) [ inl e ↦ rw e here | inr ne ↦ below i (omega arith) ]
