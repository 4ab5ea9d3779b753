-- The counts and characters of components, one by one and together.
use Rattle.std.proofs.Common.{◌≡◌, ◌≤◌, ℕ, List, [], ◌∷◌, ◌++◌, map, append_assoc, append-nil, ◌∙◌, sym, ap, arith, true}
use Rattle.std.specs.List.{All, AllByRecursion}
use Rattle.std.specs.Str.{all_scalars, encode_utf8_all, IsUtf8}
use Rattle.std.proofs.lemmas.List.{map-append}
use Rattle.std.proofs.lemmas.Str.{encodes_same}
use Rattle.std.proofs.lemmas.List.Elements.{All-nil, All-cons, All-head, All-tail}
use Rattle.ot_operation.proofs.RunLemmas.{base_of-append}
use Rattle.ot_operation.specs.Run.{Run, Keep, Add, Skip, base_of, IsNormal}
use Rattle.ot_json.specs.Writing.{IsCounted, HasScalars, HasForm}

one_counted : (r : Run ℕ) (rs : List (Run ℕ)) → IsNormal (r ∷ rs) → base_of (r ∷ rs) ≤ 1000000 → IsCounted r
one_counted (Keep n) rs h b = (h.0, omega (arith, b))
one_counted (Add s) rs h b = tt
one_counted (Skip n) rs h b = (h.0, omega (arith, b))

pub counted : (rs : List (Run ℕ)) → IsNormal rs → base_of rs ≤ 1000000 → All IsCounted rs
counted [] h b = All-nil IsCounted
counted (r ∷ rs) h b = All-cons IsCounted r rs (one_counted r rs h b) (counted rs h.2 (omega (arith, b, base_of-append (r ∷ []) rs)))

one_form : (r : Run ℕ) → IsCounted r → HasScalars r → HasForm r
one_form (Keep n) h s = omega (arith, h)
one_form (Add t) h s = s
one_form (Skip n) h s = omega (arith, h)

pub forms : (rs : List (Run ℕ)) → All IsCounted rs → All HasScalars rs → AllByRecursion HasForm rs
forms [] h s = tt
forms (r ∷ rs) h s = (one_form r (All-head IsCounted r rs h) (All-head HasScalars r rs s), forms rs (All-tail IsCounted r rs h) (All-tail HasScalars r rs s))

-- one more of what is written, and one less of what is left
pub one_written :
    {V D R : Type 0} (f : V → D) (g : R → D) (xs ys : List V) (v : V) (all rest : List R) (r : R) (whole : List D)
    → ys ≡ xs ++ v ∷ [] → f v ≡ g r → all ≡ r ∷ rest → map f xs ++ map g all ≡ whole → map f ys ++ map g rest ≡ whole
one_written f g xs ys v all rest r whole made same left so_far =
    ap (λ zs. map f zs ++ map g rest) made ∙ ap (λ zs. zs ++ map g rest) (map-append f xs (v ∷ [])) ∙ append_assoc (map f xs) (f v ∷ []) (map g rest)
    ∙ ap (λ d. map f xs ++ (d ∷ map g rest)) same ∙ ap (λ rs. map f xs ++ map g rs) (sym left) ∙ so_far

pub all_written : {V D R : Type 0} (f : V → D) (g : R → D) (xs : List V) (left : List R) (whole : List D) → left ≡ [] → map f xs ++ map g left ≡ whole → map f xs ≡ whole
all_written f g xs left whole none so_far = sym (append-nil (map f xs)) ∙ ap (λ rs. map f xs ++ map g rs) (sym none) ∙ so_far

-- what is written as UTF-8 is characters
pub are_scalars : (cs bs : List ℕ) → IsUtf8 bs → encode_utf8_all cs ≡ bs → all_scalars cs ≡ true
are_scalars cs bs u e = ap all_scalars (encodes_same cs u.0 (e ∙ sym u.1.1)) ∙ u.1.0
