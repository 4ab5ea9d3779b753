-- Steps that give something, and what they gave.
use Rattle.std.proofs.Common.{◌≡◌, ℕ, List, [], ◌∷◌, length, ap, sym, ◌∙◌, cond, arith, Bool, true, false, refl, inl, inr}
use Rattle.std.specs.Prelude.{Option, Some, None, is_some, option_map, option_and_then}
use Rattle.std.proofs.lemmas.Bool.{cases_Bool, both_ways}
use Rattle.serde_json.specs.Data.{Data}
use Rattle.serde_json.specs.View.{view, items_view}
use Rattle.serde_json.specs.declared.value.Value.{Value}
use Rattle.std.specs.Str.{chars}
use Rattle.std.proofs.lemmas.Str.{chars-nil}
use Rattle.ot_json.specs.Fields.{keep_if, all_of}

pub no_chars : chars [] ≡ []
no_chars = chars-nil

pub some-same : {A : Type 0} (a b : A) → Some a ≡ Some b → a ≡ b
some-same a b h = cc

pub then-some : {A B : Type 0} (f : A → Option B) (o : Option A) (y : B) → option_and_then f o ≡ Some y → (x : A) × (o ≡ Some x) × (f x ≡ Some y)
then-some f None y h = absurd (let clash = h in cc)
then-some f (Some x) y h = (x, refl, h)

pub map-some : {A B : Type 0} (f : A → B) (o : Option A) (y : B) → option_map f o ≡ Some y → (x : A) × (o ≡ Some x) × (f x ≡ y)
map-some f None y h = absurd (let clash = h in cc)
map-some f (Some x) y h = (x, refl, some-same (f x) y h)

pub is-some : {A : Type 0} (o : Option A) → is_some o ≡ true → (x : A) × (o ≡ Some x)
is-some None h = absurd (both_ways false refl h)
is-some (Some x) h = (x, refl)

pub kept-some : {A : Type 0} (p : A → Bool) (o : Option A) (y : A) → keep_if p o ≡ Some y → (o ≡ Some y) × (p y ≡ true)
kept-some p None y h = absurd (let clash = h in cc)
kept-some p (Some x) y h = elim (cases_Bool (p x)) [
  | inl met ↦
      let same = some-same x y (sym (ap (λ b. cond b (Some x) None) met) ∙ h) in
      (ap (λ z. Some z) same, ap p (sym same) ∙ met)
  | inr not_met ↦ absurd (let clash = sym (ap (λ b. cond b (Some x) None) not_met) ∙ h in cc)
]

pub all_of-length : {A : Type 0} (f : Data → Option A) (vs : List Value) (xs : List A) → all_of f (items_view vs) ≡ Some xs → length xs ≡ length vs
all_of-length f [] xs h = sym (ap (λ ys. length ys) (some-same [] xs h))
all_of-length f (v ∷ vs) xs h =
    let first = then-some (λ x. option_map (λ ys. x ∷ ys) (all_of f (items_view vs))) (f (view v)) xs h in
    let rest = map-some (λ ys. first.0 ∷ ys) (all_of f (items_view vs)) xs first.2 in
    omega (arith, all_of-length f vs rest.0 rest.1, ap (λ ys. length ys) rest.2)
