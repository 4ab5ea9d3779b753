-- Names by client: what is put at a place.
use Rattle.std.proofs.Common.{◌≡◌, ℕ, zero, suc, ◌<◌, ◌≤◌, List, [], ◌∷◌, ◌++◌, length, map, set, refl, ap, ◌∙◌, arith}
use Rattle.std.proofs.lemmas.List.{length-map, map-append, map-set}
use Rattle.ot_asm.specs.Comments.{with_name}

-- one more empty name changes nothing, where the place is past all names
one_more_empty : (names : List (List ℕ)) (n : ℕ) (name : List ℕ) → length names ≤ n → with_name (names ++ [] ∷ []) n name ≡ with_name names n name
one_more_empty [] zero name le = refl
one_more_empty [] (suc n) name le = refl
one_more_empty (x ∷ names) zero name le = absurd (omega (arith, le))
one_more_empty (x ∷ names) (suc n) name le = ap (λ (t : List (List ℕ)). x ∷ t) (one_more_empty names n name (omega (arith, le)))

-- a place that is there is set
put_there : (names : List (List ℕ)) (n : ℕ) (name : List ℕ) → n < length names → set names n name ≡ with_name names n name
put_there [] n name lt = absurd (omega (arith, lt))
put_there (x ∷ names) zero name lt = refl
put_there (x ∷ names) (suc n) name lt = ap (λ (t : List (List ℕ)). x ∷ t) (put_there names n name (omega (arith, lt)))

-- what is put at place n is the same in both
pub record Pads (old now : List (List ℕ)) (n : ℕ) : Type 0 where
  pub same : (name : List ℕ) → with_name now n name ≡ with_name old n name

pub padded_more : {V : Type 0} (f : V → List ℕ) (old : List (List ℕ)) (xs ys : List V) (v : V) (n : ℕ) → Pads old (map f xs) n → length xs ≤ n → ys ≡ xs ++ v ∷ [] → f v ≡ [] → Pads old (map f ys) n
padded_more f old xs ys v n h le is empty =
    record {
      same = λ name.
          ap (λ (t : List (List ℕ)). with_name t n name) (ap (map f) is ∙ map-append f xs (v ∷ []) ∙ ap (λ (e : List ℕ). map f xs ++ e ∷ []) empty)
          ∙ one_more_empty (map f xs) n name (omega (arith, le, length-map xs f))
          ∙ h.same name;
    }

pub name_put : {V : Type 0} (f : V → List ℕ) (old : List (List ℕ)) (xs ys : List V) (v : V) (n : ℕ) → Pads old (map f xs) n → n < length xs → ys ≡ set xs n v → map f ys ≡ with_name old n (f v)
name_put f old xs ys v n h lt is = ap (map f) is ∙ map-set f xs n v ∙ put_there (map f xs) n (f v) (omega (arith, lt, length-map xs f)) ∙ h.same (f v)
