-- Counts of two sessions together, from a place on.
use Rattle.std.proofs.Common.{◌≡◌, ℕ, ◌+◌, ◌<◌, ◌≤◌, List, [], ◌∷◌, ◌++◌, length, take, drop, get_or, refl, sym, ap, ◌∙◌, inl, inr, arith, append_assoc}
use Rattle.std.specs.Prelude.{slice_set}
use Rattle.std.proofs.lemmas.Bool.{cases_lt}
use Rattle.std.proofs.lemmas.List.{drop-set-lt, drop_all, set_past, take-append-drop, take_more_set}
use Rattle.ot_conform.specs.Summed.{both, both_values}
use Rattle.ot_conform.proofs.Places.{at_place}

-- those before a place are together
abbrev pub both_to : List ℕ → List ℕ → ℕ → List ℕ
both_to ms ns i = take i ms ++ both_values (drop i ms) (drop i ns)

both_within : (ms ns : List ℕ) (i d e : ℕ) → i < length ms → i < length ns → both_to ms ns i ≡ both_to (slice_set ms i (both (get_or ms i d) (get_or ns i e))) ns (i + 1)
both_within ms ns i d e in_ms in_ns =
    let v : ℕ = both (get_or ms i d) (get_or ns i e) in
    ap (λ (xs : List ℕ). take i ms ++ both_values xs (drop i ns)) (at_place ms i d in_ms)
    ∙ ap (λ (xs : List ℕ). take i ms ++ both_values (get_or ms i d ∷ drop (i + 1) ms) xs) (at_place ns i e in_ns)
    ∙ sym (append_assoc (take i ms) (v ∷ []) (both_values (drop (i + 1) ms) (drop (i + 1) ns)))
    ∙ ap (λ (xs : List ℕ). xs ++ both_values (drop (i + 1) ms) (drop (i + 1) ns)) (sym (take_more_set ms i v in_ms))
    ∙ ap (λ (xs : List ℕ). take (i + 1) (slice_set ms i v) ++ both_values xs (drop (i + 1) ns)) (sym (drop-set-lt (i + 1) ms i v (omega arith)))

-- no count is left
both_past : (ms ns : List ℕ) (i : ℕ) → length ms ≤ i → both_to ms ns i ≡ ms
both_past ms ns i past =
    ap (λ (xs : List ℕ). take i ms ++ both_values xs (drop i ns)) (drop_all i ms past)
    ∙ ap (λ (xs : List ℕ). take i ms ++ xs) (sym (drop_all i ms past))
    ∙ take-append-drop i ms

pub both_next : (ms ns : List ℕ) (i d e : ℕ) → i < length ns → both_to ms ns i ≡ both_to (slice_set ms i (both (get_or ms i d) (get_or ns i e))) ns (i + 1)
both_next ms ns i d e in_ns = elim (cases_lt i (length ms)) [
  | inl within ↦ both_within ms ns i d e within in_ns
  | inr past ↦
      both_past ms ns i past
      ∙ sym (both_past ms ns (i + 1) (omega (arith, past)))
      ∙ ap (λ (xs : List ℕ). both_to xs ns (i + 1)) (sym (set_past ms i (both (get_or ms i d) (get_or ns i e)) past))
]

both_none : (ms : List ℕ) → both_values ms [] ≡ ms
both_none [] = refl
both_none (m ∷ ms) = refl

-- nothing is left that could be added
pub both_end : (ms ns : List ℕ) (i : ℕ) → length ns ≤ i → both_to ms ns i ≡ ms
both_end ms ns i past =
    ap (λ (xs : List ℕ). take i ms ++ both_values (drop i ms) xs) (drop_all i ns past)
    ∙ ap (λ (xs : List ℕ). take i ms ++ xs) (both_none (drop i ms))
    ∙ take-append-drop i ms
