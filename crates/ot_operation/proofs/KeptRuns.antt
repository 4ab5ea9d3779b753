-- Runs of one operation that lie in what the other keeps stay as they are: transform goes past them at once.
use Rattle.std.proofs.Common.{nat_eq, if◌then◌else◌, ◌≡◌, ℕ, suc, zero, ◌+◌, ◌-◌, ◌<◌, ◌≤◌, List, [], ◌∷◌, ◌++◌, length, map, refl, sym, ap, subst, ◌∙◌, arith, append_assoc, append-nil}
use borrow.Author.Tests.{ne_eqb}
use Rattle.ot_operation.specs.Operation.{Operation, New, olds, with_retain, with_insert, with_delete}
use Rattle.ot_operation.specs.Run.{Run, Keep, Add, Skip, base_of, image_from}
use Rattle.ot_operation.specs.Steps.{with_runs}
use Rattle.ot_operation.proofs.RunLemmas.{olds-add, same_operation}
use Rattle.ot_operation.specs.Steps.{target_of, skipped, kept_by}
use Rattle.ot_operation.proofs.SkippedLaws.{skipped_retain-whole, skipped_retain-part, skipped_delete-whole}
use Rattle.ot_operation.proofs.TransformProgress.{Progress, progress_insert_first, progress_both_stay, progress_first_goes}

-- how many places the first run keeps
abbrev pub first_keep : {A : Type 0} → List (Run A) → ℕ
first_keep [] = 0
first_keep (run ∷ runs) = kept_by run

-- the runs without `count` places that their first run keeps
abbrev pub after_kept : {A : Type 0} → ℕ → List (Run A) → List (Run A)
after_kept count runs = if nat_eq count 0 then runs else skipped count runs

pub with_runs-none : {A : Type 0} (op : Operation A) → with_runs op [] ≡ op
with_runs-none op = same_operation _ _ _ _ (omega arith) (append-nil op.image)

pub with_runs-keep : {A : Type 0} (op : Operation A) (m : ℕ) (rs : List (Run A)) → with_runs (with_retain op m) rs ≡ with_runs op (Keep m ∷ rs)
with_runs-keep op m rs = same_operation _ _ _ _ (omega arith) (append_assoc op.image (olds op.base m) (image_from (op.base + m) rs))

pub with_runs-add : {A : Type 0} (op : Operation A) (text : List A) (rs : List (Run A)) → with_runs (with_insert op text) rs ≡ with_runs op (Add text ∷ rs)
with_runs-add op text rs = same_operation _ _ _ _ refl (append_assoc op.image (map New text) (image_from op.base rs))

pub with_runs-skip : {A : Type 0} (op : Operation A) (m : ℕ) (rs : List (Run A)) → with_runs (with_delete op m) rs ≡ with_runs op (Skip m ∷ rs)
with_runs-skip op m rs = same_operation _ _ _ _ (omega arith) refl

pub retain-none : {A : Type 0} (op : Operation A) → with_retain op 0 ≡ op
retain-none op = same_operation _ _ _ _ (omega arith) (append-nil op.image)

pub retain-more : {A : Type 0} (op : Operation A) (m n : ℕ) → with_retain (with_retain op m) n ≡ with_retain op (m + n)
retain-more {A} op m n =
    same_operation _ _ _ _ (omega arith)
    (append_assoc op.image (olds op.base m) (olds (op.base + m) n) ∙ ap (λ rest. op.image ++ rest) (sym (olds-add {A = A} op.base m n)))

-- what is left of the first run

pub kept_none : {A : Type 0} (ys : List (Run A)) → after_kept 0 ys ≡ ys
kept_none ys = refl

pub kept_some : {A : Type 0} (count : ℕ) (ys : List (Run A)) → 0 < count → after_kept count ys ≡ skipped count ys
kept_some count ys some = rw (ne_eqb count 0 (omega (arith, some))) refl

pub kept_more :
    {A : Type 0} (m count n : ℕ) (ys : List (Run A)) → 0 < m → m + count ≤ n
    → after_kept count (skipped m (Keep n ∷ ys)) ≡ after_kept (m + count) (Keep n ∷ ys)
kept_more m zero n ys some within =
    let same : m + 0 ≡ m = omega arith in
    kept_none (skipped m (Keep n ∷ ys)) ∙ rw same (sym (kept_some m (Keep n ∷ ys) some))
kept_more m (suc count) n ys some within = by (n - (m + suc count)) (omega (arith, within))
  where
    rest : (left : ℕ) → n ≡ m + suc count + left → skipped m (Keep n ∷ ys) ≡ Keep (suc (count + left)) ∷ ys
    rest left e = skipped_retain-part m n (count + left) ys (omega (arith, e))

    by : (left : ℕ) → n ≡ m + suc count + left → after_kept (suc count) (skipped m (Keep n ∷ ys)) ≡ after_kept (m + suc count) (Keep n ∷ ys)
    by zero e =
        ap (after_kept (suc count)) (rest zero e)
        ∙ kept_some (suc count) (Keep (suc (count + zero)) ∷ ys) (omega arith)
        ∙ skipped_retain-whole (suc count) (suc (count + zero)) ys (omega arith)
        ∙ sym (kept_some (m + suc count) (Keep n ∷ ys) (omega arith) ∙ skipped_retain-whole (m + suc count) n ys (omega (arith, e)))
    by (suc left) e =
        ap (after_kept (suc count)) (rest (suc left) e)
        ∙ kept_some (suc count) (Keep (suc (count + suc left)) ∷ ys) (omega arith)
        ∙ skipped_retain-part (suc count) (suc (count + suc left)) left ys (omega arith)
        ∙ sym (kept_some (m + suc count) (Keep n ∷ ys) (omega arith) ∙ skipped_retain-part (m + suc count) n left ys (omega (arith, e)))

pub first_more : {A : Type 0} (m count n : ℕ) (ys : List (Run A)) → m + count ≤ n → count ≤ first_keep (skipped m (Keep n ∷ ys))
first_more {A} m count n ys within = by (n - m) (omega (arith, within))
  where
    by : (left : ℕ) → n ≡ m + left → count ≤ first_keep (skipped m (Keep n ∷ ys))
    by zero e = omega (arith, e, within)
    by (suc left) e = rw (skipped_retain-part m n left ys e) (omega (arith, e, within))

-- past runs in what the other keeps at first

pub moved :
    {A : Type 0} (a b f g s t : Operation A) (xs ys zs : List (Run A)) → f ≡ g → s ≡ t → ys ≡ zs → Progress a b f s xs ys → Progress a b g t xs zs
moved a b f g s t xs ys zs first_is second_is rest_is w =
    subst (λ op. Progress a b op t xs zs) first_is
    (subst (λ op. Progress a b f op xs zs) second_is
    (subst (λ rest. Progress a b f s xs rest) rest_is w))

pub progress_kept :
    {A : Type 0} (a b first second : Operation A) (front rest ys : List (Run A)) → base_of front ≤ first_keep ys
    → Progress a b first second (front ++ rest) ys
    → Progress a b (with_runs first front) (with_retain second (target_of front)) rest (after_kept (base_of front) ys)
progress_kept a b first second [] rest ys within w =
    moved a b first (with_runs first []) second (with_retain second 0) rest ys (after_kept 0 ys)
    (sym (with_runs-none first)) (sym (retain-none second)) (sym (kept_none ys)) w
progress_kept a b first second (Add text ∷ front) rest ys within w =
    moved a b _ _ _ _ rest (after_kept (base_of front) ys) (after_kept (base_of front) ys) (with_runs-add first text front) (retain-more second (length text) (target_of front)) refl
    (progress_kept a b (with_insert first text) (with_retain second (length text)) front rest ys within
    (progress_insert_first a b first second text (front ++ rest) ys w))
progress_kept a b first second (Keep m ∷ front) rest [] within w = absurd (omega (arith, within, w.first_normal.0))
progress_kept a b first second (Keep m ∷ front) rest (Add text ∷ ys) within w = absurd (omega (arith, within, w.first_normal.0))
progress_kept a b first second (Keep m ∷ front) rest (Skip n ∷ ys) within w = absurd (omega (arith, within, w.first_normal.0))
progress_kept a b first second (Keep m ∷ front) rest (Keep n ∷ ys) within w =
    let one : Progress a b (with_retain first m) (with_retain second m) (front ++ rest) (skipped m (Keep n ∷ ys)) =
    subst (λ xs. Progress a b (with_retain first m) (with_retain second m) xs (skipped m (Keep n ∷ ys)))
    (skipped_retain-whole m m (front ++ rest) (omega arith))
    (progress_both_stay a b first second m m n (front ++ rest) ys (omega arith) (omega (arith, within)) w) in
    moved a b _ _ _ _ rest (after_kept (base_of front) (skipped m (Keep n ∷ ys))) (after_kept (m + base_of front) (Keep n ∷ ys))
    (with_runs-keep first m front) (retain-more second m (target_of front)) (kept_more m (base_of front) n ys w.first_normal.0 within)
    (progress_kept a b (with_retain first m) (with_retain second m) front rest (skipped m (Keep n ∷ ys)) (first_more m (base_of front) n ys within) one)
progress_kept a b first second (Skip m ∷ front) rest [] within w = absurd (omega (arith, within, w.first_normal.0))
progress_kept a b first second (Skip m ∷ front) rest (Add text ∷ ys) within w = absurd (omega (arith, within, w.first_normal.0))
progress_kept a b first second (Skip m ∷ front) rest (Skip n ∷ ys) within w = absurd (omega (arith, within, w.first_normal.0))
progress_kept a b first second (Skip m ∷ front) rest (Keep n ∷ ys) within w =
    let one : Progress a b (with_delete first m) second (front ++ rest) (skipped m (Keep n ∷ ys)) =
    subst (λ xs. Progress a b (with_delete first m) second xs (skipped m (Keep n ∷ ys)))
    (skipped_delete-whole m m (front ++ rest) (omega arith))
    (progress_first_goes a b first second m m n (front ++ rest) ys (omega arith) (omega (arith, within)) w) in
    moved a b _ _ _ _ rest (after_kept (base_of front) (skipped m (Keep n ∷ ys))) (after_kept (m + base_of front) (Keep n ∷ ys))
    (with_runs-skip first m front) refl (kept_more m (base_of front) n ys w.first_normal.0 within)
    (progress_kept a b (with_delete first m) second front rest (skipped m (Keep n ∷ ys)) (first_more m (base_of front) n ys within) one)
