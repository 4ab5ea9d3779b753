-- The steps of compose's loop.
use Rattle.std.proofs.Common.{◌≡◌, ℕ, ◌+◌, ◌<◌, ◌≤◌, List, [], ◌∷◌, ◌++◌, length, max, Some, None, refl, ap, subst, ◌∙◌, arith}
use Rattle.ot_operation.specs.Operation.{Operation, IsTooLong}
use Rattle.ot_operation.specs.Run.{IsNormal, image_from}
use Rattle.ot_operation.proofs.RunLemmas.{length-news-le}
use Rattle.ot_operation.specs.Compose.{compose}
use Rattle.ot_operation.specs.Steps.{appended, with_runs}
use Rattle.ot_operation.proofs.ComposeProgress.{ComposeBounds}
use Rattle.ot_codes.specs.declared.code.Code.{Code}
use Rattle.ot_codes.specs.declared.code.Code.TheVariants.{Retain, Insert, Delete}
use Rattle.ot_codes.specs.declared.code.Sum.{Sum}
use Rattle.ot_codes.specs.declared.cut.Splice.{Splice}
use Rattle.ot_codes.specs.Codes.{run_of, runs_of, spelled, length_of, others_of, first_of, insertion_of, deletion_of, retain_of, keeps, past, without, total_of, kept_in, inserted_in, sum_of}
use Rattle.ot_codes.specs.Cuts.{with_cut, GiveText}
use Rattle.ot_codes.specs.Cuts.Source.{OfFirst, OfSecond}
use Rattle.ot_codes.specs.Splice.{HasInserted, HasKept, composed_code, SplicesCode, inserts}
use Rattle.ot_codes.proofs.Marked.{size-spelled, filled_marked, normal-marked}
use Rattle.ot_codes.proofs.Composing.{first_of_codes, second_of_codes, Composing, state_moved, composing_insert, composing_retain, composing_keep, composing_cut, composing_bounds, composing_small, composing_end, composing_none}
use Rattle.ot_codes.proofs.ComposeSkipping.{composing_kept_first}
use Rattle.ot_codes.proofs.Steps.{normal_run, retains, total-run}
use Rattle.ot_codes.proofs.Summing.{inserted-append}

-- what is known of both operations

pub record Whole (codes_a codes_b : List Code) : Type 0 where
  pub bounds : ComposeBounds (first_of_codes codes_a) (second_of_codes codes_b)
  pub first_fits : inserted_in codes_a ≤ 1000000
  pub second_fits : inserted_in codes_b ≤ 1000000

inserted_fits : (codes : List Code) → length (spelled codes).image ≤ 1000000 → inserted_in codes ≤ 1000000
inserted_fits codes fits = omega (arith, fits, size-spelled 0 codes, length-news-le (image_from 0 (runs_of codes)))

pub whole_of :
    (codes_a codes_b : List Code) (a b : Operation (Unit {0})) → spelled codes_a ≡ a → spelled codes_b ≡ b
    → max a.base (length a.image) ≤ 1000000 → max b.base (length b.image) ≤ 1000000 → Whole codes_a codes_b
whole_of codes_a codes_b a b a_is b_is a_fits b_fits =
    let a_base : (spelled codes_a).base ≤ 1000000 = omega (arith, a_fits, ap (λ (op : Operation (Unit {0})). op.base) a_is) in
    let a_target : length (spelled codes_a).image ≤ 1000000 = omega (arith, a_fits, ap (λ (op : Operation (Unit {0})). length op.image) a_is) in
    let b_target : length (spelled codes_b).image ≤ 1000000 = omega (arith, b_fits, ap (λ (op : Operation (Unit {0})). length op.image) b_is) in
    record { bounds = composing_bounds codes_a codes_b a_base b_target; first_fits = inserted_fits codes_a a_target; second_fits = inserted_fits codes_b b_target }

inserts_first : (xs : List Code) (x : Code) → inserts x ≤ inserted_in (x ∷ xs)
inserts_first xs (Retain m) = omega arith
inserts_first xs (Insert m) = omega arith
inserts_first xs (Delete m) = omega arith

-- the loop's invariant
abbrev pub Spliced : List Code → List Code → Operation (Unit {0}) → Splice → List Code → List Code → Type 0
Spliced codes_a codes_b pen s xs ys = Composing codes_a codes_b pen s.cuts.items s.at s.from xs ys

module _ (codes_a codes_b : List Code) (pen : Operation (Unit {0})) (s : Splice) where
  -- what is inserted and not gone through yet
  pub reach :
      (xs ys : List Code) → Whole codes_a codes_b → Spliced codes_a codes_b pen s xs ys → (s.at + inserted_in xs ≤ 1000000) × (s.from + inserted_in ys ≤ 1000000)
  reach xs ys whole w = (omega (arith, w.left_first, whole.first_fits), omega (arith, w.left_second, whole.second_fits))

  pub reach_insertion : (xs ys : List Code) (n : ℕ) → insertion_of ys ≡ Some n → Whole codes_a codes_b → Spliced codes_a codes_b pen s xs ys → s.from + n ≤ 1000000
  reach_insertion xs [] n is whole w = cc
  reach_insertion xs (Retain m ∷ ys) n is whole w = cc
  reach_insertion xs (Delete m ∷ ys) n is whole w = cc
  reach_insertion xs (Insert m ∷ ys) n is whole w =
      let e : m ≡ n = cc in omega (arith, e, (reach xs (Insert m ∷ ys) whole w).1)

  pub reach_part : (xs ys : List Code) (c : Code) → first_of xs ≡ Some c → Whole codes_a codes_b → Spliced codes_a codes_b pen s xs ys → s.at + inserts c ≤ 1000000
  reach_part [] ys c is whole w = cc
  reach_part (x ∷ xs) ys c is whole w =
      let e : x ≡ c = cc in
      omega (arith, ap inserts e, inserts_first xs x, (reach (x ∷ xs) ys whole w).0)

  pub splicing_insert :
      (next : Splice) (xs ys : List Code) (n : ℕ) → insertion_of ys ≡ Some n → HasInserted s next n → Spliced codes_a codes_b pen s xs ys
      → Spliced codes_a codes_b (appended pen (run_of (Insert n))) next xs (others_of ys)
  splicing_insert next xs ys n is has w =
      state_moved codes_a codes_b (appended pen (run_of (Insert n))) (appended pen (run_of (Insert n)))
      (with_cut s.cuts.items (record { at = s.at; gone = 0; from = s.from; put = n })) next.cuts.items s.at next.at (s.from + n) next.from xs xs (others_of ys) (others_of ys)
      refl has.cuts has.at has.from refl refl
      (composing_insert codes_a codes_b pen s.cuts.items s.at s.from xs ys n is w)

  part_at :
      (next : Splice) (count : ℕ) (c d : Code) (xs ys : List Code) → 0 < count → count ≤ length_of c → count ≤ length_of d
      → deletion_of (c ∷ xs) ≡ None → insertion_of (d ∷ ys) ≡ None → SplicesCode c (keeps d) count s next → Spliced codes_a codes_b pen s (c ∷ xs) (d ∷ ys)
      → Spliced codes_a codes_b (composed_code pen c (keeps d) count) next (without count (c ∷ xs)) (without count (d ∷ ys))
  part_at next count (Retain m) d xs ys some in_first in_second not_c not_d has w =
      let same : next.at ≡ s.at = omega (arith, has.at) in
      state_moved codes_a codes_b _ _ s.cuts.items next.cuts.items s.at next.at s.from next.from _ _ _ _ refl has.cuts same has.from refl refl
      (composing_retain codes_a codes_b pen s.cuts.items s.at s.from count some xs d ys in_second not_d m in_first w)
  part_at next count (Insert m) (Retain n) xs ys some in_first in_second not_c not_d has w =
      state_moved codes_a codes_b _ _ s.cuts.items next.cuts.items (s.at + count) next.at s.from next.from _ _ _ _ refl has.cuts has.at has.from refl refl
      (composing_keep codes_a codes_b pen s.cuts.items s.at s.from count some xs ys m n in_first in_second w)
  part_at next count (Insert m) (Delete n) xs ys some in_first in_second not_c not_d has w =
      state_moved codes_a codes_b _ _ (with_cut s.cuts.items (record { at = s.at; gone = count; from = s.from; put = 0 })) next.cuts.items (s.at + count) next.at s.from next.from _ _ _ _
      refl has.cuts has.at has.from refl refl
      (composing_cut codes_a codes_b pen s.cuts.items s.at s.from count some xs ys m n in_first in_second w)
  part_at next count (Insert m) (Insert n) xs ys some in_first in_second not_c not_d has w = cc
  part_at next count (Delete m) d xs ys some in_first in_second not_c not_d has w = cc

  pub splicing_part :
      (next : Splice) (count : ℕ) (c d : Code) (xs ys : List Code) → first_of xs ≡ Some c → first_of ys ≡ Some d → 0 < count → count ≤ length_of c → count ≤ length_of d
      → deletion_of xs ≡ None → insertion_of ys ≡ None → SplicesCode c (keeps d) count s next → Spliced codes_a codes_b pen s xs ys
      → Spliced codes_a codes_b (composed_code pen c (keeps d) count) next (without count xs) (without count ys)
  splicing_part next count c d [] ys c_is d_is some in_first in_second not_c not_d has w = cc
  splicing_part next count c d (x ∷ xs) [] c_is d_is some in_first in_second not_c not_d has w = cc
  splicing_part next count c d (x ∷ xs) (y ∷ ys) c_is d_is some in_first in_second not_c not_d has w =
      let e : c ≡ x = cc in
      let f : d ≡ y = cc in
      rw (e, f)
      (part_at next count x y xs ys some (omega (arith, in_first, ap length_of e)) (omega (arith, in_second, ap length_of f)) not_c not_d
      (subst (λ k. SplicesCode x (keeps k) count s next) f (subst (λ k. SplicesCode k (keeps d) count s next) e has)) w)

  small_at :
      (count : ℕ) (c d : Code) (xs ys : List Code) → 0 < count → count ≤ length_of c → count ≤ length_of d
      → deletion_of (c ∷ xs) ≡ None → insertion_of (d ∷ ys) ≡ None → Whole codes_a codes_b → Spliced codes_a codes_b pen s (c ∷ xs) (d ∷ ys)
      → IsTooLong (composed_code pen c (keeps d) count) → ⊥
  small_at count (Retain m) d xs ys some in_first in_second not_c not_d whole w =
      composing_small codes_a codes_b _ s.cuts.items s.at s.from _ _ whole.bounds
      (composing_retain codes_a codes_b pen s.cuts.items s.at s.from count some xs d ys in_second not_d m in_first w)
  small_at count (Insert m) (Retain n) xs ys some in_first in_second not_c not_d whole w =
      composing_small codes_a codes_b _ s.cuts.items (s.at + count) s.from _ _ whole.bounds
      (composing_keep codes_a codes_b pen s.cuts.items s.at s.from count some xs ys m n in_first in_second w)
  small_at count (Insert m) (Delete n) xs ys some in_first in_second not_c not_d whole w =
      composing_small codes_a codes_b pen s.cuts.items s.at s.from _ _ whole.bounds w
  small_at count (Insert m) (Insert n) xs ys some in_first in_second not_c not_d whole w = cc
  small_at count (Delete m) d xs ys some in_first in_second not_c not_d whole w = cc

  pub small_part :
      (count : ℕ) (c d : Code) (xs ys : List Code) → first_of xs ≡ Some c → first_of ys ≡ Some d → 0 < count → count ≤ length_of c → count ≤ length_of d
      → deletion_of xs ≡ None → insertion_of ys ≡ None → Whole codes_a codes_b → Spliced codes_a codes_b pen s xs ys
      → IsTooLong (composed_code pen c (keeps d) count) → ⊥
  small_part count c d [] ys c_is d_is some in_first in_second not_c not_d whole w = cc
  small_part count c d (x ∷ xs) [] c_is d_is some in_first in_second not_c not_d whole w = cc
  small_part count c d (x ∷ xs) (y ∷ ys) c_is d_is some in_first in_second not_c not_d whole w =
      let e : c ≡ x = cc in
      let f : d ≡ y = cc in
      rw (e, f)
      (small_at count x y xs ys some (omega (arith, in_first, ap length_of e)) (omega (arith, in_second, ap length_of f)) not_c not_d whole w)

  -- codes of the first in a retain of the second
  module _
      (xs ys behind : List Code) (first : Code) (others : List Code) (sum : Sum) (count : ℕ)
      (parts : xs ≡ (first ∷ others) ++ behind) (sum_is : sum ≡ sum_of (first ∷ others)) where
    abbrev front : List Code
    front = first ∷ others

    kept :
        retain_of ys ≡ Some count → sum.kept + sum.inserted ≤ count → Spliced codes_a codes_b pen s xs ys
        → Composing codes_a codes_b (with_runs pen (runs_of front)) s.cuts.items (s.at + inserted_in front) s.from behind (past (kept_in front + inserted_in front) (Retain count ∷ others_of ys))
    kept is within w =
        let made : sum.kept + sum.inserted ≡ kept_in front + inserted_in front = ap (λ (k : Sum). k.kept + k.inserted) sum_is in
        composing_kept_first codes_a codes_b pen s.cuts.items s.at s.from front behind (others_of ys) count (omega (arith, within, made))
        (subst (λ zs. Spliced codes_a codes_b pen s (front ++ behind) zs) (retains ys count is) (subst (λ zs. Spliced codes_a codes_b pen s zs ys) parts w))

    pub splicing_run :
        (next : Splice) → retain_of ys ≡ Some count → sum.kept + sum.inserted ≤ count → HasKept s next sum.inserted → Spliced codes_a codes_b pen s xs ys
        → Spliced codes_a codes_b (with_runs pen (runs_of front)) next behind (past (sum.kept + sum.inserted) ys)
    splicing_run next is within has w =
        let made : sum.kept + sum.inserted ≡ kept_in front + inserted_in front = ap (λ (k : Sum). k.kept + k.inserted) sum_is in
        let far : next.at ≡ s.at + inserted_in front = omega (arith, has.at, ap (λ (k : Sum). k.inserted) sum_is) in
        state_moved codes_a codes_b (with_runs pen (runs_of front)) (with_runs pen (runs_of front)) s.cuts.items next.cuts.items (s.at + inserted_in front) next.at s.from next.from
        behind behind (past (kept_in front + inserted_in front) (Retain count ∷ others_of ys)) (past (sum.kept + sum.inserted) ys)
        refl has.cuts far has.from refl (ap (λ k. past k ys) made ∙ ap (past (kept_in front + inserted_in front)) (retains ys count is)) (kept is within w)

    pub small_run :
        retain_of ys ≡ Some count → sum.kept + sum.inserted ≤ count → Whole codes_a codes_b → Spliced codes_a codes_b pen s xs ys → IsTooLong (with_runs pen (runs_of front)) → ⊥
    small_run is within whole w = composing_small codes_a codes_b _ _ _ _ _ _ whole.bounds (kept is within w)

    pub reach_run : Whole codes_a codes_b → Spliced codes_a codes_b pen s xs ys → s.at + sum.inserted ≤ 1000000
    reach_run whole w =
        omega (arith, (reach xs ys whole w).0, ap inserted_in parts, inserted-append front behind, ap (λ (k : Sum). k.inserted) sum_is)

    pub normal_kept : Spliced codes_a codes_b pen s xs ys → IsNormal (runs_of (first ∷ others))
    normal_kept w = normal_run xs (first ∷ others) behind parts (normal-marked OfFirst s.at xs w.progress.first_normal)

    pub total-kept : Spliced codes_a codes_b pen s xs ys → total_of behind < total_of xs
    total-kept w = total-run xs behind first others parts (normal-marked OfFirst s.at xs w.progress.first_normal)

  pub splicing_end :
      (xs ys : List Code) → first_of xs ≡ None → insertion_of ys ≡ None → Spliced codes_a codes_b pen s xs ys
      → (pen ≡ compose (spelled codes_a) (spelled codes_b)) × GiveText s.cuts.items (spelled codes_a) (spelled codes_b)
  splicing_end [] ys none other w = composing_end codes_a codes_b pen s.cuts.items s.at s.from ys other w
  splicing_end (x ∷ xs) ys none other w = cc

  pub splicing_done :
      (xs ys : List Code) → first_of ys ≡ None → deletion_of xs ≡ None → Spliced codes_a codes_b pen s xs ys
      → (pen ≡ compose (spelled codes_a) (spelled codes_b)) × GiveText s.cuts.items (spelled codes_a) (spelled codes_b)
  splicing_done xs (y ∷ ys) none other w = cc
  splicing_done [] [] none other w = composing_end codes_a codes_b pen s.cuts.items s.at s.from [] refl w
  splicing_done (x ∷ xs) [] none other w = absurd (composing_none codes_a codes_b pen s.cuts.items s.at s.from [] x xs other w)

  -- the loop ends
  pub some_part :
      (xs ys : List Code) (c d : Code) → first_of xs ≡ Some c → first_of ys ≡ Some d → Spliced codes_a codes_b pen s xs ys → (0 < length_of c) × (0 < length_of d)
  some_part [] ys c d c_is d_is w = cc
  some_part (x ∷ xs) [] c d c_is d_is w = cc
  some_part (x ∷ xs) (y ∷ ys) c d c_is d_is w =
      let e : x ≡ c = cc in
      let f : y ≡ d = cc in (
        omega (arith, ap length_of e, filled_marked OfFirst s.at x xs w.progress.first_normal),
        omega (arith, ap length_of f, filled_marked OfSecond s.from y ys w.progress.second_normal),
      )

  pub total-deleted : (xs ys : List Code) (n : ℕ) → deletion_of xs ≡ Some n → Spliced codes_a codes_b pen s xs ys → total_of (others_of xs) < total_of xs
  total-deleted [] ys n is w = cc
  total-deleted (x ∷ xs) ys n is w = omega (arith, filled_marked OfFirst s.at x xs w.progress.first_normal)

  pub total-came : (xs ys : List Code) (n : ℕ) → insertion_of ys ≡ Some n → Spliced codes_a codes_b pen s xs ys → total_of (others_of ys) < total_of ys
  total-came xs [] n is w = cc
  total-came xs (y ∷ ys) n is w = omega (arith, filled_marked OfSecond s.from y ys w.progress.second_normal)
