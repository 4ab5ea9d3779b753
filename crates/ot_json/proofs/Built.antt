-- The array of normal runs is the operation that they spell.
use Rattle.std.proofs.Common.{◌≡◌, ◌+◌, ◌-◌, ◌≤◌, ℕ, zero, suc, List, [], ◌∷◌, ◌++◌, length, map, false, refl, sym, ap, ◌∙◌, arith, append_assoc, append-nil, Some, Ok, length-append}
use Rattle.std.specs.List.{AllByRecursion}
use Rattle.std.proofs.lemmas.Str.{chars-encodes}
use Rattle.serde_json.specs.View.{items_of}
use Rattle.ot_operation.specs.Operation.{with_insert, IsTooLong}
use Rattle.ot_operation.specs.Run.{Run, Keep, Add, Skip, base_of, image_from, operation_of}
use Rattle.ot_operation.proofs.RunLemmas.{base_of-append, image_from-append, one_more_keep, one_more_add, one_more_drop}
use Rattle.serde_json.specs.Written.{compact_text, has_float, items_have_float}
use Rattle.ot_json.specs.Reading.{run_of_data, with_run, with_component, built, operation_of_text}
use Rattle.ot_json.proofs.Added.{is_short}
use Rattle.ot_json.proofs.RoundTrip.{written_reads}
use Rattle.ot_json.specs.Writing.{HasForm, data_of, array_of}

pub one_back : (r : Run ℕ) → HasForm r → run_of_data (data_of r) ≡ Some r
one_back (Keep zero) h = absurd (omega (arith, h.0))
one_back (Keep (suc n)) h = refl
one_back (Add s) h = ap (λ t. Some (Add t)) (chars-encodes s h)
one_back (Skip zero) h = absurd (omega (arith, h.0))
one_back (Skip (suc n)) h = let e : suc n - 1 ≡ n = omega arith in rw e refl

one_more : (front : List (Run ℕ)) (r : Run ℕ) → with_run (operation_of front) r ≡ operation_of (front ++ r ∷ [])
one_more front (Keep n) = sym (one_more_keep front n)
one_more front (Add s) = ap (λ rs. with_insert (operation_of rs) s) (sym (append-nil front)) ∙ sym (one_more_add front s [] (λ from. refl))
one_more front (Skip n) = sym (one_more_drop front n)

shorter : (front rs : List (Run ℕ)) → base_of (front ++ rs) ≤ 1000000 → length (image_from 0 (front ++ rs)) ≤ 1000000 → IsTooLong (operation_of front) → ⊥
shorter front rs b t long =
    let image : length (image_from 0 (front ++ rs)) ≡ length (image_from 0 front) + length (image_from (0 + base_of front) rs) = ap length (image_from-append 0 front rs) ∙ length-append (image_from 0 front) (image_from (0 + base_of front) rs) in
    omega (arith, base_of-append front rs)

pub all_back : (i : ℕ) (front rs : List (Run ℕ)) → AllByRecursion HasForm rs → base_of (front ++ rs) ≤ 1000000 → length (image_from 0 (front ++ rs)) ≤ 1000000 → built i (operation_of front) (items_of (map data_of rs)) ≡ Ok (operation_of (front ++ rs))
all_back i front [] h b t = ap (λ f. Ok (operation_of f)) (sym (append-nil front))
all_back i front (r ∷ rs) h b t =
    let whole : (front ++ r ∷ []) ++ rs ≡ front ++ r ∷ rs = append_assoc front (r ∷ []) rs in
    let b' : base_of ((front ++ r ∷ []) ++ rs) ≤ 1000000 = rw whole b in
    let t' : length (image_from 0 ((front ++ r ∷ []) ++ rs)) ≤ 1000000 = rw whole t in
    let short : IsTooLong (with_run (operation_of front) r) → ⊥ = rw (one_more front r) (shorter (front ++ r ∷ []) rs b' t') in
    let step : with_component i (operation_of front) (run_of_data (data_of r)) ≡ Ok (operation_of (front ++ r ∷ [])) = rw (one_back r h.0) (is_short i (operation_of front) r short ∙ ap (λ op. Ok op) (one_more front r)) in
    let rest : built (i + 1) (operation_of (front ++ r ∷ [])) (items_of (map data_of rs)) ≡ Ok (operation_of (front ++ r ∷ rs)) = rw whole at (all_back (i + 1) (front ++ r ∷ []) rs h.1 b' t') in
    rw step rest

-- the text of normal runs reads back
pub text_back : (rs : List (Run ℕ)) → AllByRecursion HasForm rs → base_of rs ≤ 1000000 → length (image_from 0 rs) ≤ 1000000 → operation_of_text (compact_text (array_of rs)) ≡ Ok (operation_of rs)
text_back rs h b t = rw (written_reads rs h) (all_back 0 [] rs h b t)

items_no_floats : (rs : List (Run ℕ)) → items_have_float (items_of (map data_of rs)) ≡ false
items_no_floats [] = refl
items_no_floats (Keep n ∷ rs) = items_no_floats rs
items_no_floats (Add s ∷ rs) = items_no_floats rs
items_no_floats (Skip n ∷ rs) = items_no_floats rs

pub no_floats : (rs : List (Run ℕ)) → has_float (array_of rs) ≡ false
no_floats rs = items_no_floats rs
