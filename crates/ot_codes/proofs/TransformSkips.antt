-- Runs of one operation that lie in a single run of the other: transform goes past all of them at once.
use Rattle.std.proofs.Common.{◌≡◌, suc, ◌+◌, ◌<◌, List, [], ◌∷◌, ◌++◌, length, refl, sym, subst, arith}
use Rattle.ot_operation.specs.Operation.{Operation, with_retain, with_insert, with_delete}
use Rattle.ot_operation.specs.Run.{Run, Keep, Add, Skip, base_of}
use Rattle.ot_operation.specs.Steps.{with_runs}
use Rattle.ot_operation.specs.Steps.{target_of, skipped}
use Rattle.ot_operation.proofs.SkippedLaws.{skipped_retain-whole, skipped_delete-whole}
use Rattle.ot_operation.proofs.TransformProgress.{Progress, progress_insert_second, progress_both_stay, progress_second_goes}
use Rattle.ot_operation.proofs.KeptRuns.{first_keep, after_kept, with_runs-none, with_runs-keep, with_runs-add, with_runs-skip, retain-none, retain-more, kept_none, kept_more, first_more}

pub moved_to :
    {A : Type 0} (a b f g s t : Operation A) (xs vs ys zs : List (Run A)) → f ≡ g → s ≡ t → xs ≡ vs → ys ≡ zs → Progress a b f s xs ys → Progress a b g t vs zs
moved_to a b f g s t xs vs ys zs first_is second_is ours theirs w =
    subst (λ op. Progress a b op t vs zs) first_is
    (subst (λ op. Progress a b f op vs zs) second_is
    (subst (λ rest. Progress a b f s rest zs) ours
    (subst (λ rest. Progress a b f s xs rest) theirs w)))

-- past runs of the second in what the first keeps. They take less than all of it: where they end with an insertion, the first's own comes before it
pub progress_kept_second :
    {A : Type 0} (a b first second : Operation A) (front rest xs : List (Run A)) → base_of front < first_keep xs
    → Progress a b first second xs (front ++ rest)
    → Progress a b (with_retain first (target_of front)) (with_runs second front) (after_kept (base_of front) xs) rest
progress_kept_second a b first second [] rest xs within w =
    moved_to a b first (with_retain first 0) second (with_runs second []) xs (after_kept 0 xs) rest rest
    (sym (retain-none first)) (sym (with_runs-none second)) (sym (kept_none xs)) refl w
progress_kept_second a b first second (run ∷ front) rest [] within w = absurd (omega (arith, within))
progress_kept_second a b first second (run ∷ front) rest (Add text ∷ xs) within w = absurd (omega (arith, within))
progress_kept_second a b first second (run ∷ front) rest (Skip n ∷ xs) within w = absurd (omega (arith, within))
progress_kept_second a b first second (Add text ∷ front) rest (Keep n ∷ xs) within w =
    moved_to a b _ _ _ _ (after_kept (base_of front) (Keep n ∷ xs)) (after_kept (base_of front) (Keep n ∷ xs)) rest rest
    (retain-more first (length text) (target_of front)) (with_runs-add second text front) refl refl
    (progress_kept_second a b (with_retain first (length text)) (with_insert second text) front rest (Keep n ∷ xs) within
    (progress_insert_second a b first second text (Keep n ∷ xs) (front ++ rest) tt w))
progress_kept_second a b first second (Keep m ∷ front) rest (Keep n ∷ xs) within w =
    let one : Progress a b (with_retain first m) (with_retain second m) (skipped m (Keep n ∷ xs)) (front ++ rest) =
    subst (λ ys. Progress a b (with_retain first m) (with_retain second m) (skipped m (Keep n ∷ xs)) ys)
    (skipped_retain-whole m m (front ++ rest) (omega arith))
    (progress_both_stay a b first second m n m xs (front ++ rest) (omega (arith, within)) (omega arith) w) in
    moved_to a b _ _ _ _ (after_kept (base_of front) (skipped m (Keep n ∷ xs))) (after_kept (m + base_of front) (Keep n ∷ xs)) rest rest
    (retain-more first m (target_of front)) (with_runs-keep second m front) (kept_more m (base_of front) n xs w.second_normal.0 (omega (arith, within))) refl
    (progress_kept_second a b (with_retain first m) (with_retain second m) front rest (skipped m (Keep n ∷ xs))
    (first_more m (suc (base_of front)) n xs (omega (arith, within))) one)
progress_kept_second a b first second (Skip m ∷ front) rest (Keep n ∷ xs) within w =
    let one : Progress a b first (with_delete second m) (skipped m (Keep n ∷ xs)) (front ++ rest) =
    subst (λ ys. Progress a b first (with_delete second m) (skipped m (Keep n ∷ xs)) ys)
    (skipped_delete-whole m m (front ++ rest) (omega arith))
    (progress_second_goes a b first second m n m xs (front ++ rest) (omega (arith, within)) (omega arith) w) in
    moved_to a b _ _ _ _ (after_kept (base_of front) (skipped m (Keep n ∷ xs))) (after_kept (m + base_of front) (Keep n ∷ xs)) rest rest
    refl (with_runs-skip second m front) (kept_more m (base_of front) n xs w.second_normal.0 (omega (arith, within))) refl
    (progress_kept_second a b first (with_delete second m) front rest (skipped m (Keep n ∷ xs))
    (first_more m (suc (base_of front)) n xs (omega (arith, within))) one)
