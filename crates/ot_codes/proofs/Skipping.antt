-- Codes of one operation that lie in a single code of the other: what transform and compose make of all of them at once.
use Rattle.std.proofs.Common.{◌≡◌, ℕ, ◌+◌, ◌<◌, ◌≤◌, List, [], ◌∷◌, ◌++◌, nat_eq, Bool, true, false, if◌then◌else◌, refl, sym, ap, subst, ◌∙◌, arith}
use Rattle.ot_operation.specs.Operation.{Operation, with_retain}
use Rattle.ot_operation.specs.Run.{Run, base_of, IsNormal}
use Rattle.ot_operation.specs.Steps.{with_runs}
use Rattle.ot_operation.specs.Steps.{target_of}
use Rattle.ot_operation.proofs.TransformProgress.{Progress}
use Rattle.ot_operation.proofs.KeptRuns.{after_kept, progress_kept}
use Rattle.ot_codes.specs.declared.code.Code.{Code}
use Rattle.ot_codes.specs.declared.code.Code.TheVariants.{Retain, Insert, Delete}
use Rattle.ot_codes.specs.Codes.{runs_of, without, past, kept_in, deleted_in, inserted_in}
use Rattle.ot_codes.proofs.Put.{length-blanks, runs_of-append}
use Rattle.ot_codes.proofs.Read.{without_keep}
use Rattle.ot_codes.proofs.TransformSkips.{moved_to, progress_kept_second}

-- what codes take and make

pub base_in : (codes : List Code) → base_of (runs_of codes) ≡ kept_in codes + deleted_in codes
base_in [] = refl
base_in (Retain n ∷ codes) = omega (arith, base_in codes)
base_in (Insert n ∷ codes) = base_in codes
base_in (Delete n ∷ codes) = omega (arith, base_in codes)

pub target_in : (codes : List Code) → target_of (runs_of codes) ≡ kept_in codes + inserted_in codes
target_in [] = refl
target_in (Retain n ∷ codes) = omega (arith, target_in codes)
target_in (Insert n ∷ codes) = omega (arith, target_in codes, length-blanks n)
target_in (Delete n ∷ codes) = target_in codes

-- what is left of the single code

past_by : (count : ℕ) (b : Bool) (codes rest : List Code) → runs_of (if b then codes else rest) ≡ (if b then runs_of codes else runs_of rest)
past_by count true codes rest = refl
past_by count false codes rest = refl

pub past_keep : (count n : ℕ) (codes : List Code) → runs_of (past count (Retain n ∷ codes)) ≡ after_kept count (runs_of (Retain n ∷ codes))
past_keep count n codes =
    past_by count (nat_eq count 0) (Retain n ∷ codes) (without count (Retain n ∷ codes))
    ∙ ap (λ (rest : List (Run (Unit {0}))). if nat_eq count 0 then runs_of (Retain n ∷ codes) else rest) (without_keep count n codes)

-- the front of codes in normal form is in normal form

pub normal_front : {A : Type 0} (xs ys : List (Run A)) → IsNormal (xs ++ ys) → IsNormal xs
normal_front [] ys normal = tt
normal_front (x ∷ []) ys normal = (normal.0, tt, tt)
normal_front (x ∷ z ∷ xs) ys normal = (normal.0, normal.1, normal_front (z ∷ xs) ys normal.2)

module _ (a b first second : Operation (Unit {0})) (front rest others : List Code) (n : ℕ) where
  -- codes of the first in a retain of the second
  pub skip_first :
      kept_in front + deleted_in front ≤ n → Progress a b first second (runs_of (front ++ rest)) (runs_of (Retain n ∷ others))
      → Progress a b (with_runs first (runs_of front)) (with_retain second (kept_in front + inserted_in front))
      (runs_of rest) (runs_of (past (kept_in front + deleted_in front) (Retain n ∷ others)))
  skip_first within w =
      moved_to a b _ _ _ _ _ _ _ _ refl (ap (with_retain second) (target_in front)) refl
      (ap (λ (count : ℕ). after_kept count (runs_of (Retain n ∷ others))) (base_in front) ∙ sym (past_keep (kept_in front + deleted_in front) n others))
      (progress_kept a b first second (runs_of front) (runs_of rest) (runs_of (Retain n ∷ others)) (omega (arith, within, base_in front))
      (subst (λ xs. Progress a b first second xs (runs_of (Retain n ∷ others))) (runs_of-append front rest) w))

  -- codes of the second in a retain of the first, which takes more than they do
  pub skip_second :
      kept_in front + deleted_in front < n → Progress a b first second (runs_of (Retain n ∷ others)) (runs_of (front ++ rest))
      → Progress a b (with_retain first (kept_in front + inserted_in front)) (with_runs second (runs_of front))
      (runs_of (past (kept_in front + deleted_in front) (Retain n ∷ others))) (runs_of rest)
  skip_second within w =
      moved_to a b _ _ _ _ _ _ _ _ (ap (with_retain first) (target_in front)) refl
      (ap (λ (count : ℕ). after_kept count (runs_of (Retain n ∷ others))) (base_in front) ∙ sym (past_keep (kept_in front + deleted_in front) n others)) refl
      (progress_kept_second a b first second (runs_of front) (runs_of rest) (runs_of (Retain n ∷ others)) (omega (arith, within, base_in front))
      (subst (λ ys. Progress a b first second (runs_of (Retain n ∷ others)) ys) (runs_of-append front rest) w))
