-- The steps of transform's loop, over lists of codes.
use Rattle.std.proofs.Common.{◌≡◌, ℕ, zero, suc, ◌+◌, ◌<◌, ◌≤◌, List, [], ◌∷◌, ◌++◌, Some, None, refl, sym, ap, ◌∙◌, subst, arith}
use borrow.Author.Tests.{ne_eqb}
use Rattle.ot_operation.specs.Operation.{Operation, with_retain, with_insert}
use Rattle.ot_operation.specs.Run.{Run, IsNormal}
use Rattle.ot_operation.specs.Steps.{with_runs}
use Rattle.ot_operation.specs.Steps.{appended, transformed_part}
use Rattle.ot_operation.specs.Merge.{first_after, second_after}
use Rattle.ot_operation.proofs.TransformProgress.{Progress, progress_insert_first, progress_insert_second, progress_both_stay, progress_first_goes, progress_second_goes, progress_both_go, progress_end_first, progress_end_second}
use Rattle.ot_codes.specs.declared.code.Code.{Code}
use Rattle.ot_codes.specs.declared.code.Code.TheVariants.{Retain, Insert, Delete}
use Rattle.ot_codes.specs.declared.code.Sum.{Sum}
use Rattle.ot_codes.specs.Codes.{blanks, run_of, runs_of, length_of, first_of, head_of, insertion_of, retain_of, others_of, past, without, keeps, kept_in, deleted_in, inserted_in, sum_of, HasFirst, total_of}
use Rattle.ot_codes.proofs.Put.{length-blanks, runs_of-append}
use Rattle.ot_codes.proofs.Read.{filled_first, head_gone, head_there, inserts, inserts_nothing, none_left, otherwise, total-without, without_keep, without_skip}
use Rattle.ot_codes.proofs.Skipping.{normal_front, skip_first, skip_second}
use Rattle.ot_codes.proofs.Summing.{total-append}

abbrev Op : Type 0
Op = Operation (Unit {0})

module _ (a b first second : Op) (xs ys : List Code) where
  pub step_first :
      (count : ℕ) → insertion_of xs ≡ Some count → Progress a b first second (runs_of xs) (runs_of ys)
      → Progress a b (appended first (run_of (Insert count))) (appended second (run_of (Retain count))) (runs_of (others_of xs)) (runs_of ys)
  step_first count is w =
      subst (λ n. Progress a b (with_insert first (blanks count)) (with_retain second n) (runs_of (others_of xs)) (runs_of ys)) (length-blanks count)
      (progress_insert_first a b first second (blanks count) (runs_of (others_of xs)) (runs_of ys)
      (subst (λ zs. Progress a b first second (runs_of zs) (runs_of ys)) (inserts xs count is) w))

  pub step_second :
      (count : ℕ) → insertion_of xs ≡ None → insertion_of ys ≡ Some count → Progress a b first second (runs_of xs) (runs_of ys)
      → Progress a b (appended first (run_of (Retain count))) (appended second (run_of (Insert count))) (runs_of xs) (runs_of (others_of ys))
  step_second count other is w =
      subst (λ n. Progress a b (with_retain first n) (with_insert second (blanks count)) (runs_of xs) (runs_of (others_of ys))) (length-blanks count)
      (progress_insert_second a b first second (blanks count) (runs_of xs) (runs_of (others_of ys)) (otherwise xs other)
      (subst (λ zs. Progress a b first second (runs_of xs) (runs_of zs)) (inserts ys count is) w))

part_at :
    (a b first second : Op) (count : ℕ) (c d : Code) (xs ys : List Code) → count ≤ length_of c → count ≤ length_of d
    → insertion_of (c ∷ xs) ≡ None → insertion_of (d ∷ ys) ≡ None → Progress a b first second (runs_of (c ∷ xs)) (runs_of (d ∷ ys))
    → Progress a b (transformed_part first (keeps c) (keeps d) count) (transformed_part second (keeps d) (keeps c) count)
    (runs_of (without count (c ∷ xs))) (runs_of (without count (d ∷ ys)))
part_at a b first second count (Retain m) (Retain n) xs ys in_first in_second not_c not_d w =
    rw (without_keep count m xs, without_keep count n ys) (progress_both_stay a b first second count m n (runs_of xs) (runs_of ys) in_first in_second w)
part_at a b first second count (Delete m) (Retain n) xs ys in_first in_second not_c not_d w =
    rw (without_skip count m xs, without_keep count n ys) (progress_first_goes a b first second count m n (runs_of xs) (runs_of ys) in_first in_second w)
part_at a b first second count (Retain m) (Delete n) xs ys in_first in_second not_c not_d w =
    rw (without_keep count m xs, without_skip count n ys) (progress_second_goes a b first second count m n (runs_of xs) (runs_of ys) in_first in_second w)
part_at a b first second count (Delete m) (Delete n) xs ys in_first in_second not_c not_d w =
    rw (without_skip count m xs, without_skip count n ys) (progress_both_go a b first second count m n (runs_of xs) (runs_of ys) in_first in_second w)
part_at a b first second count (Insert m) d xs ys in_first in_second not_c not_d w = cc
part_at a b first second count (Retain m) (Insert n) xs ys in_first in_second not_c not_d w = cc
part_at a b first second count (Delete m) (Insert n) xs ys in_first in_second not_c not_d w = cc

pub step_part :
    (a b first second : Op) (count : ℕ) (c d : Code) (xs ys : List Code) → first_of xs ≡ Some c → first_of ys ≡ Some d
    → count ≤ length_of c → count ≤ length_of d
    → insertion_of xs ≡ None → insertion_of ys ≡ None → Progress a b first second (runs_of xs) (runs_of ys)
    → Progress a b (transformed_part first (keeps c) (keeps d) count) (transformed_part second (keeps d) (keeps c) count)
    (runs_of (without count xs)) (runs_of (without count ys))
step_part a b first second count c d [] ys c_is d_is in_first in_second not_xs not_ys w = cc
step_part a b first second count c d (x ∷ xs) [] c_is d_is in_first in_second not_xs not_ys w = cc
step_part a b first second count c d (x ∷ xs) (y ∷ ys) c_is d_is in_first in_second not_xs not_ys w =
    let e : x ≡ c = cc in
    let f : y ≡ d = cc in
    rw (← e, ← f)
    (part_at a b first second count x y xs ys (omega (arith, in_first, ap length_of e)) (omega (arith, in_second, ap length_of f)) not_xs not_ys w)

-- one side is used up

pub end_second :
    (a b first second : Op) (xs ys : List Code) → first_of ys ≡ None → insertion_of xs ≡ None
    → Progress a b first second (runs_of xs) (runs_of ys) → (first ≡ first_after a b) × (second ≡ second_after a b)
end_second a b first second xs ys none other w =
    progress_end_second a b first second (runs_of xs) (otherwise xs other)
    (subst (λ zs. Progress a b first second (runs_of xs) (runs_of zs)) (none_left ys none) w)

pub end_first :
    (a b first second : Op) (xs ys : List Code) → first_of xs ≡ None → insertion_of ys ≡ None
    → Progress a b first second (runs_of xs) (runs_of ys) → (first ≡ first_after a b) × (second ≡ second_after a b)
end_first a b first second xs ys none other w =
    progress_end_first a b first second (runs_of ys) (otherwise ys other)
    (subst (λ zs. Progress a b first second (runs_of zs) (runs_of ys)) (none_left xs none) w)

-- the same by the codes at hand, of which one is there or not

pub step_heads :
    (a b first second : Op) (count : ℕ) (c d : Code) (xs ys : List Code) → c ≡ head_of xs → d ≡ head_of ys
    → 0 < count → count ≤ length_of c → count ≤ length_of d
    → ((n : ℕ) → c ≡ Insert n → ⊥) → ((n : ℕ) → d ≡ Insert n → ⊥) → Progress a b first second (runs_of xs) (runs_of ys)
    → Progress a b (transformed_part first (keeps c) (keeps d) count) (transformed_part second (keeps d) (keeps c) count)
    (runs_of (without count xs)) (runs_of (without count ys))
step_heads a b first second count c d xs ys c_is d_is some in_first in_second not_c not_d w =
    step_part a b first second count c d xs ys (head_there xs c c_is (omega (arith, some, in_first))) (head_there ys d d_is (omega (arith, some, in_second)))
    in_first in_second (inserts_nothing xs (λ n is. not_c n (c_is ∙ is))) (inserts_nothing ys (λ n is. not_d n (d_is ∙ is))) w

pub end_heads :
    (a b first second : Op) (c d : Code) (xs ys : List Code) → c ≡ head_of xs → d ≡ head_of ys → (0 < length_of c → length_of d ≡ 0)
    → ((n : ℕ) → c ≡ Insert n → ⊥) → ((n : ℕ) → d ≡ Insert n → ⊥) → Progress a b first second (runs_of xs) (runs_of ys)
    → (first ≡ first_after a b) × (second ≡ second_after a b)
end_heads a b first second c d xs ys c_is d_is none not_c not_d w = by (length_of c) refl
  where
    by : (n : ℕ) → length_of c ≡ n → (first ≡ first_after a b) × (second ≡ second_after a b)
    by zero e = end_first a b first second xs ys (head_gone xs c c_is w.first_normal e) (inserts_nothing ys (λ n is. not_d n (d_is ∙ is))) w
    by (suc n) e =
        end_second a b first second xs ys (head_gone ys d d_is w.second_normal (none (omega (arith, e)))) (inserts_nothing xs (λ m is. not_c m (c_is ∙ is))) w

-- many codes of one, in a retain of the other

pub retains : (codes : List Code) (count : ℕ) → retain_of codes ≡ Some count → codes ≡ Retain count ∷ others_of codes
retains [] count is = cc
retains (Retain n ∷ codes) count is = let e : n ≡ count = cc in ap (λ m. Retain m ∷ codes) e
retains (Insert n ∷ codes) count is = cc
retains (Delete n ∷ codes) count is = cc

pub normal_run : (xs front behind : List Code) → xs ≡ front ++ behind → IsNormal (runs_of xs) → IsNormal (runs_of front)
normal_run xs front behind parts normal =
    normal_front (runs_of front) (runs_of behind) (subst (λ (rs : List (Run (Unit {0}))). IsNormal rs) (ap runs_of parts ∙ runs_of-append front behind) normal)

module _ (a b first second : Op) (xs ys front behind : List Code) (sum : Sum) (count : ℕ) (sum_is : sum ≡ sum_of front) where
  pub step_run_first :
      retain_of ys ≡ Some count → xs ≡ front ++ behind → sum.kept + sum.deleted ≤ count → Progress a b first second (runs_of xs) (runs_of ys)
      → Progress a b (with_runs first (runs_of front)) (appended second (run_of (Retain (sum.kept + sum.inserted)))) (runs_of behind) (runs_of (past (sum.kept + sum.deleted) ys))
  step_run_first is parts within w =
      let within_front : kept_in front + deleted_in front ≤ count = subst (λ (s : Sum). s.kept + s.deleted ≤ count) sum_is within in
      let whole : Progress a b first second (runs_of (front ++ behind)) (runs_of (Retain count ∷ others_of ys)) =
      subst (λ zs. Progress a b first second (runs_of (front ++ behind)) (runs_of zs)) (retains ys count is)
      (subst (λ zs. Progress a b first second (runs_of zs) (runs_of ys)) parts w) in
      let skipped_all : Progress a b (with_runs first (runs_of front)) (with_retain second (kept_in front + inserted_in front)) (runs_of behind) (runs_of (past (kept_in front + deleted_in front) (Retain count ∷ others_of ys))) =
      skip_first a b first second front behind (others_of ys) count within_front whole in
      subst (λ (s : Sum). Progress a b (with_runs first (runs_of front)) (with_retain second (s.kept + s.inserted)) (runs_of behind) (runs_of (past (s.kept + s.deleted) ys))) (sym sum_is)
      (subst (λ zs. Progress a b (with_runs first (runs_of front)) (with_retain second (kept_in front + inserted_in front)) (runs_of behind) (runs_of (past (kept_in front + deleted_in front) zs))) (sym (retains ys count is)) skipped_all)

  pub step_run_second :
      retain_of xs ≡ Some count → ys ≡ front ++ behind → sum.kept + sum.deleted < count → Progress a b first second (runs_of xs) (runs_of ys)
      → Progress a b (appended first (run_of (Retain (sum.kept + sum.inserted)))) (with_runs second (runs_of front)) (runs_of (past (sum.kept + sum.deleted) xs)) (runs_of behind)
  step_run_second is parts within w =
      let within_front : kept_in front + deleted_in front < count = subst (λ (s : Sum). s.kept + s.deleted < count) sum_is within in
      let whole : Progress a b first second (runs_of (Retain count ∷ others_of xs)) (runs_of (front ++ behind)) =
      subst (λ zs. Progress a b first second (runs_of zs) (runs_of (front ++ behind))) (retains xs count is)
      (subst (λ zs. Progress a b first second (runs_of xs) (runs_of zs)) parts w) in
      let skipped_all : Progress a b (with_retain first (kept_in front + inserted_in front)) (with_runs second (runs_of front)) (runs_of (past (kept_in front + deleted_in front) (Retain count ∷ others_of xs))) (runs_of behind) =
      skip_second a b first second front behind (others_of xs) count within_front whole in
      subst (λ (s : Sum). Progress a b (with_retain first (s.kept + s.inserted)) (with_runs second (runs_of front)) (runs_of (past (s.kept + s.deleted) xs)) (runs_of behind)) (sym sum_is)
      (subst (λ zs. Progress a b (with_retain first (kept_in front + inserted_in front)) (with_runs second (runs_of front)) (runs_of (past (kept_in front + deleted_in front) zs)) (runs_of behind)) (sym (retains xs count is)) skipped_all)

-- how much is left

pub has_past : (codes : List Code) (n count : ℕ) → retain_of codes ≡ Some n → count ≤ n → 0 < count → HasFirst count codes
has_past [] n count is within some = cc
has_past (Retain m ∷ codes) n count is within some = let e : m ≡ n = cc in (some, omega (arith, e, within))
has_past (Insert m ∷ codes) n count is within some = cc
has_past (Delete m ∷ codes) n count is within some = cc

pub retain_filled : (codes : List Code) (n : ℕ) → retain_of codes ≡ Some n → IsNormal (runs_of codes) → 0 < n
retain_filled [] n is normal = cc
retain_filled (Retain m ∷ codes) n is normal = let e : m ≡ n = cc in omega (arith, e, normal.0)
retain_filled (Insert m ∷ codes) n is normal = cc
retain_filled (Delete m ∷ codes) n is normal = cc

past_some : (count : ℕ) (codes : List Code) → 0 < count → past count codes ≡ without count codes
past_some count codes some = rw (ne_eqb count 0 (omega (arith, some))) refl

pub total-past : (count : ℕ) (codes : List Code) → (0 < count → HasFirst count codes) → total_of (past count codes) ≤ total_of codes
total-past zero codes has = omega arith
total-past (suc count) codes has =
    omega (arith, total-without (suc count) codes (has (omega arith)), ap total_of (past_some (suc count) codes (omega arith)))

pub total-run :
    (xs behind : List Code) (code : Code) (others : List Code) → xs ≡ (code ∷ others) ++ behind → IsNormal (runs_of xs) → total_of behind < total_of xs
total-run xs behind code others parts normal =
    let some = filled_first code (others ++ behind) (subst (λ (cs : List Code). IsNormal (runs_of cs)) parts normal) in
    omega (arith, ap total_of parts, total-append (code ∷ others) behind, some)
