-- Runs of one operation that lie in a single run of the other: compose goes past all of them at once.
use Rattle.std.proofs.Common.{◌≡◌, ◌+◌, ◌≤◌, List, [], ◌∷◌, ◌++◌, length, refl, sym, ap, subst, arith}
use Rattle.std.proofs.Math.Seq.{take-length}
use borrow.Author.Tests.{eq-eqb}
use Rattle.ot_operation.specs.Operation.{Operation, with_retain, with_insert, with_delete}
use Rattle.ot_operation.specs.Run.{Run, Keep, Add, Skip}
use Rattle.ot_operation.specs.Steps.{with_runs}
use Rattle.ot_operation.specs.Steps.{target_of, skipped, skipped_made}
use Rattle.ot_operation.proofs.SkippedLaws.{skipped_retain-whole}
use Rattle.ot_operation.proofs.ComposeProgress.{ComposeProgress, compose_delete, retain_retain, insert_retain}
use Rattle.ot_operation.proofs.KeptRuns.{first_keep, after_kept, with_runs-none, with_runs-keep, with_runs-add, with_runs-skip, kept_none, kept_more, first_more}

pub composed_moved :
    {A : Type 0} (a b f g : Operation A) (xs vs ys zs : List (Run A)) → f ≡ g → xs ≡ vs → ys ≡ zs → ComposeProgress a b f xs ys → ComposeProgress a b g vs zs
composed_moved a b f g xs vs ys zs built_is ours theirs w =
    subst (λ op. ComposeProgress a b op vs zs) built_is
    (subst (λ rest. ComposeProgress a b f rest zs) ours
    (subst (λ rest. ComposeProgress a b f xs rest) theirs w))

inserted_whole : {A : Type 0} (text : List A) (xs : List (Run A)) → skipped_made (length text) (Add text ∷ xs) ≡ xs
inserted_whole text xs = rw (eq-eqb (length text) (length text) refl) refl

-- past runs of the first in what the second keeps
pub composed_kept_first :
    {A : Type 0} (a b built : Operation A) (front rest ys : List (Run A)) → target_of front ≤ first_keep ys
    → ComposeProgress a b built (front ++ rest) ys
    → ComposeProgress a b (with_runs built front) rest (after_kept (target_of front) ys)
composed_kept_first a b built [] rest ys within w =
    composed_moved a b built (with_runs built []) rest rest ys (after_kept 0 ys) (sym (with_runs-none built)) refl (sym (kept_none ys)) w
composed_kept_first a b built (Skip m ∷ front) rest ys within w =
    composed_moved a b _ _ rest rest (after_kept (target_of front) ys) (after_kept (target_of front) ys) (with_runs-skip built m front) refl refl
    (composed_kept_first a b (with_delete built m) front rest ys within (compose_delete a b built m (front ++ rest) ys w))
composed_kept_first a b built (Keep m ∷ front) rest [] within w = absurd (omega (arith, within, w.first_normal.0))
composed_kept_first a b built (Keep m ∷ front) rest (Add text ∷ ys) within w = absurd (omega (arith, within, w.first_normal.0))
composed_kept_first a b built (Keep m ∷ front) rest (Skip n ∷ ys) within w = absurd (omega (arith, within, w.first_normal.0))
composed_kept_first a b built (Keep m ∷ front) rest (Keep n ∷ ys) within w =
    let one : ComposeProgress a b (with_retain built m) (front ++ rest) (skipped m (Keep n ∷ ys)) =
    subst (λ xs. ComposeProgress a b (with_retain built m) xs (skipped m (Keep n ∷ ys)))
    (skipped_retain-whole m m (front ++ rest) (omega arith))
    (retain_retain a b built m (front ++ rest) ys m n (omega arith) (omega (arith, within)) w) in
    composed_moved a b _ _ rest rest (after_kept (target_of front) (skipped m (Keep n ∷ ys))) (after_kept (m + target_of front) (Keep n ∷ ys))
    (with_runs-keep built m front) refl (kept_more m (target_of front) n ys w.first_normal.0 within)
    (composed_kept_first a b (with_retain built m) front rest (skipped m (Keep n ∷ ys)) (first_more m (target_of front) n ys within) one)
composed_kept_first a b built (Add text ∷ front) rest [] within w = absurd (omega (arith, within, w.first_normal.0))
composed_kept_first a b built (Add text ∷ front) rest (Add more ∷ ys) within w = absurd (omega (arith, within, w.first_normal.0))
composed_kept_first a b built (Add text ∷ front) rest (Skip n ∷ ys) within w = absurd (omega (arith, within, w.first_normal.0))
composed_kept_first a b built (Add text ∷ front) rest (Keep n ∷ ys) within w =
    let one : ComposeProgress a b (with_insert built text) (front ++ rest) (skipped (length text) (Keep n ∷ ys)) =
    composed_moved a b _ _ _ _ (skipped (length text) (Keep n ∷ ys)) (skipped (length text) (Keep n ∷ ys))
    (ap (with_insert built) (take-length text)) (inserted_whole text (front ++ rest)) refl
    (insert_retain a b built (length text) (front ++ rest) ys text n (omega arith) (omega (arith, within)) w) in
    composed_moved a b _ _ rest rest (after_kept (target_of front) (skipped (length text) (Keep n ∷ ys))) (after_kept (length text + target_of front) (Keep n ∷ ys))
    (with_runs-add built text front) refl (kept_more (length text) (target_of front) n ys w.first_normal.0 within)
    (composed_kept_first a b (with_insert built text) front rest (skipped (length text) (Keep n ∷ ys)) (first_more (length text) (target_of front) n ys within) one)
