-- Codes that fit into a length.
use Rattle.std.proofs.Common.{◌≡◌, ℕ, suc, ◌+◌, ◌<◌, ◌≤◌, List, [], ◌∷◌, ◌++◌, length, take, drop, get_or, refl, sym, ap, ◌∙◌, arith}
use Rattle.std.proofs.lemmas.List.{take-append-drop}
use Rattle.ot_codes.specs.declared.code.Code.{Code}
use Rattle.ot_codes.specs.declared.code.Code.TheVariants.{Retain, Insert, Delete}
use Rattle.ot_codes.specs.declared.code.Sum.{Sum}
use Rattle.ot_codes.specs.declared.cursor.Measure.{Measure}
use Rattle.ot_codes.specs.Codes.{counted, total_of, kept_in, deleted_in, inserted_in, sum_of, added}
use Rattle.ot_codes.specs.Runs.{measured}
use Rattle.ot_codes.proofs.Summing.{same_sum, counted_more, take_more, total-append, total_in}

-- codes that fit so far, behind others of a sum

pub record FitsUpTo (from : Sum) (codes : List Code) (limit : ℕ) (by : Measure) (i : ℕ) (sum : Sum) : Type 0 where
  pub is : sum ≡ added from (sum_of (take i codes))
  pub fits : measured by sum ≤ limit

total-take : (codes : List Code) (i : ℕ) → total_of (take i codes) ≤ total_of codes
total-take codes i = omega (arith, ap total_of (take-append-drop i codes), total-append (take i codes) (drop i codes))

added_none : (from : Sum) → from ≡ added from (sum_of [])
added_none from = same_sum from.kept (from.kept + 0) from.deleted (from.deleted + 0) from.inserted (from.inserted + 0) (omega arith) (omega arith) (omega arith)

pub fits_begun : (from : Sum) (codes : List Code) (limit : ℕ) (by : Measure) → measured by from ≤ limit → FitsUpTo from codes limit by 0 from
fits_begun from codes limit by fits = record { is = added_none from; fits = fits }

counted_added : (from sum : Sum) (code : Code) → counted (added from sum) code ≡ added from (counted sum code)
counted_added from sum (Retain n) = same_sum _ _ _ _ _ _ (omega arith) refl refl
counted_added from sum (Insert n) = same_sum _ _ _ _ _ _ refl refl (omega arith)
counted_added from sum (Delete n) = same_sum _ _ _ _ _ _ refl (omega arith) refl

module _
    (from : Sum) (codes : List Code) (limit : ℕ) (by : Measure) (i : ℕ) (sum : Sum) (code d : Code) (w : FitsUpTo from codes limit by i sum) (h : i < length codes)
    (code_is : code ≡ get_or codes i d) (small : from.kept + from.deleted + from.inserted + total_of codes < 67108864) where
  next_is : counted sum code ≡ added from (sum_of (take (suc i) codes))
  next_is =
      ap (λ s. counted s code) w.is ∙ counted_added from (sum_of (take i codes)) code
      ∙ ap (added from) (counted_more (take i codes) code ∙ ap (λ c. sum_of (take i codes ++ c ∷ [])) code_is ∙ ap sum_of (sym (take_more codes i d h)))

  pub next_small : (counted sum code).kept + (counted sum code).deleted + (counted sum code).inserted < 67108864
  next_small =
      let total : (counted sum code).kept + (counted sum code).deleted + (counted sum code).inserted
      ≡ from.kept + kept_in (take (suc i) codes) + (from.deleted + deleted_in (take (suc i) codes)) + (from.inserted + inserted_in (take (suc i) codes)) =
      ap (λ (s : Sum). s.kept + s.deleted + s.inserted) next_is in
      omega (arith, total, total_in (take (suc i) codes), total-take codes (suc i), small)

  pub now_small : (sum.kept + 67108864 ≤ 4294967296) × (sum.deleted + 67108864 ≤ 4294967296) × (sum.inserted + 67108864 ≤ 4294967296)
  now_small = by_code code next_small
    where
      by_code :
          (code : Code) → (counted sum code).kept + (counted sum code).deleted + (counted sum code).inserted < 67108864
          → (sum.kept + 67108864 ≤ 4294967296) × (sum.deleted + 67108864 ≤ 4294967296) × (sum.inserted + 67108864 ≤ 4294967296)
      by_code (Retain n) s = (omega (arith, s), omega (arith, s), omega (arith, s))
      by_code (Insert n) s = (omega (arith, s), omega (arith, s), omega (arith, s))
      by_code (Delete n) s = (omega (arith, s), omega (arith, s), omega (arith, s))

  pub fits_next : (j : ℕ) (next : Sum) → j ≡ i + 1 → next ≡ counted sum code → measured by next ≤ limit → FitsUpTo from codes limit by j next
  fits_next j next j_is is fits =
      let j_suc : j ≡ suc i = omega (arith, j_is) in
      rw j_suc (record { is = is ∙ next_is; fits = fits })
