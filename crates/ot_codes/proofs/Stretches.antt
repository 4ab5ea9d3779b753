-- Codes in blocks: some of the blocks, and all of them behind others.
use Rattle.std.proofs.Common.{◌≡◌, ℕ, zero, suc, ◌+◌, ◌-◌, ◌<◌, ◌≤◌, List, [], ◌∷◌, ◌++◌, length, map, take, drop, get_or, refl, sym, ap, subst, ◌∙◌, arith, length-append, length-take, length-drop}
use Rattle.std.proofs.lemmas.List.{drop-append-le, take-append-drop, drop-take}
use Rattle.std.proofs.Math.Seq.{take-add, take-length, take-append_seam, drop-append_seam}
use Rattle.ot_codes.specs.declared.code.Code.{Code}
use Rattle.ot_codes.specs.declared.code.Sum.{Sum}
use Rattle.ot_codes.specs.declared.end.End.{End}
use Rattle.ot_codes.specs.Codes.{added, subtracted, sum_of, total_of}
use Rattle.ot_codes.specs.Ends.{start, between, IsBlock, AreEnds, last_end, first_block, MayMove, moved}
use Rattle.ot_codes.proofs.Summing.{same_sum, sum-append, total-append, total_in}
use Rattle.ot_codes.proofs.Ends.{added_added, block_longer, none_added, reach}

take_part : {X : Type 0} (n m : ℕ) (xs : List X) → take n (take (n + m) xs) ≡ take n xs
take_part {X} n m xs = ap (take n) (take-add n m xs) ∙ by n xs
  where
    none : (k l : ℕ) → ◌≡◌ {A = List X} (take k (take l [])) []
    none zero l = refl
    none (suc k) zero = refl
    none (suc k) (suc l) = refl

    by : (n : ℕ) (xs : List X) → take n (take n xs ++ take m (drop n xs)) ≡ take n xs
    by zero xs = refl
    by (suc n) [] = none (suc n) m
    by (suc n) (x ∷ xs) = ap (λ (rest : List X). x ∷ rest) (by n xs)

drop_none : {X : Type 0} (k : ℕ) → ◌≡◌ {A = List X} (drop k []) []
drop_none zero = refl
drop_none (suc k) = refl

drop_more : {X : Type 0} (n m : ℕ) (xs : List X) → drop m (drop n xs) ≡ drop (n + m) xs
drop_more {X} n m [] = ap (λ (rest : List X). drop m rest) (drop_none n) ∙ drop_none m ∙ sym (drop_none (n + m))
drop_more {X} zero m (x ∷ xs) = ap (λ (k : ℕ). drop k (x ∷ xs)) (let e : m ≡ zero + m = omega arith in e)
drop_more {X} (suc n) m (x ∷ xs) =
    drop_more n m xs ∙ ap (λ (k : ℕ). drop k (x ∷ xs)) (let e : suc (n + m) ≡ suc n + m = omega arith in e)

-- what is left of a slice
pub rest_of : {X : Type 0} (xs : List X) (i : ℕ) → take (length xs - i) (drop i xs) ≡ drop i xs
rest_of {X} xs i = ap (λ (k : ℕ). take k (drop i xs)) (sym (length-drop i xs)) ∙ take-length (drop i xs)

-- one of the ends

pub record IsEnd (done : End) (codes : List Code) (end : End) : Type 0 where
  pub later : done.count < end.count
  pub within : between done end ≤ length codes
  pub sum_is : end.sum ≡ added done.sum (sum_of (take (between done end) codes))

is_end : (done : End) (codes : List Code) (end : End) → IsBlock done codes end → IsEnd done codes end
is_end done codes end b = record { later = b.some; within = b.within; sum_is = b.sum_is }

-- behind an end
behind_end : (done next end : End) (codes : List Code) → IsEnd done codes next → IsEnd next (drop (between done next) codes) end → IsEnd done codes end
behind_end done next end codes n e =
    let apart : between done end ≡ between done next + between next end = omega (arith, n.later, e.later) in
    record {
      later = omega (arith, n.later, e.later);
      within = omega (arith, n.later, e.later, n.within, e.within, length-drop (between done next) codes);
      sum_is = e.sum_is ∙ ap (λ (s : Sum). added s (sum_of (take (between next end) (drop (between done next) codes)))) n.sum_is
          ∙ sym (added_added done.sum (sum_of (take (between done next) codes)) (sum_of (take (between next end) (drop (between done next) codes))))
          ∙ ap (λ (s : Sum). added done.sum s) (sum-append (take (between done next) codes) (take (between next end) (drop (between done next) codes)))
          ∙ ap (λ (cs : List Code). added done.sum (sum_of cs)) (sym (take-add (between done next) (between next end) codes))
          ∙ ap (λ (k : ℕ). added done.sum (sum_of (take k codes))) (sym apart);
    }

pub end_at : (done : End) (codes : List Code) (ends : List End) (i : ℕ) (d end : End) → AreEnds done codes ends → i < length ends → end ≡ get_or ends i d → IsEnd done codes end
end_at done codes [] i d end are h is = absurd (omega (arith, h))
end_at done codes (next ∷ ends) zero d end are h is = subst (λ (e : End). IsEnd done codes e) (sym is) (is_end done codes next are.0)
end_at done codes (next ∷ ends) (suc i) d end are h is =
    behind_end done next end codes (is_end done codes next are.0) (end_at next (drop (between done next) codes) ends i d end are.1 (omega (arith, h)) is)

-- what lies between two ends
pub sum_between : (done : End) (codes : List Code) (end : End) → IsEnd done codes end → subtracted end.sum done.sum ≡ sum_of (take (between done end) codes)
sum_between done codes end e =
    ap (λ (s : Sum). subtracted s done.sum) e.sum_is
    ∙ same_sum _ _ _ _ _ _ (omega arith) (omega arith) (omega arith)

pub record IsBehind (done end : End) : Type 0 where
  pub kept : done.sum.kept ≤ end.sum.kept
  pub deleted : done.sum.deleted ≤ end.sum.deleted
  pub inserted : done.sum.inserted ≤ end.sum.inserted

pub behind_done : (done : End) (codes : List Code) (end : End) → IsEnd done codes end → IsBehind done end
behind_done done codes end e =
    record {
      kept = omega (arith, ap (λ (s : Sum). s.kept) e.sum_is);
      deleted = omega (arith, ap (λ (s : Sum). s.deleted) e.sum_is);
      inserted = omega (arith, ap (λ (s : Sum). s.inserted) e.sum_is);
    }

pub small_between :
    (done : End) (codes : List Code) (end : End) (sum : Sum) → IsEnd done codes end → total_of codes < 67108864 → sum ≡ subtracted end.sum done.sum
    → sum.kept + sum.deleted + sum.inserted < 67108864
small_between done codes end sum e small is =
    let front : List Code = take (between done end) codes in
    let back : List Code = drop (between done end) codes in
    omega (
      arith,
      small,
      ap (λ (s : Sum). s.kept + s.deleted + s.inserted) (is ∙ sum_between done codes end e),
      total_in front,
      total-append front back,
      ap total_of (take-append-drop (between done end) codes),
    )

-- the blocks up to one of the ends, and those behind it

pub front_ends :
    (done : End) (codes : List Code) (ends : List End) (i : ℕ) (d end : End) → AreEnds done codes ends → i < length ends → end ≡ get_or ends i d
    → AreEnds done (take (between done end) codes) (take i ends)
front_ends done codes [] i d end are h is = absurd (omega (arith, h))
front_ends done codes (next ∷ ends) zero d end are h is =
    let b = are.0 in
    subst (λ (e : End). AreEnds done (take (between done e) codes) []) (sym is)
    (omega (arith, b.few, length-take (between done next) codes), λ some. omega (arith, b.two some, b.within, length-take (between done next) codes))
front_ends done codes (next ∷ ends) (suc i) d end are h is =
    let b = are.0 in
    let e = end_at next (drop (between done next) codes) ends i d end are.1 (omega (arith, h)) is in
    let apart : between done end ≡ between done next + between next end = omega (arith, b.some, e.later) in
    let whole : take (between done end) codes ≡ take (between done next + between next end) codes = ap (λ (k : ℕ). take k codes) apart in (
      record {
        some = b.some;
        two = b.two;
        few = b.few;
        within = omega (arith, apart, b.within, length-take (between done end) codes, e.within, length-drop (between done next) codes);
        sum_is = b.sum_is
            ∙ ap (λ (cs : List Code). added done.sum (sum_of cs)) (sym (ap (take (between done next)) whole ∙ take_part (between done next) (between next end) codes));
      },
      subst (λ (cs : List Code). AreEnds next cs (take i ends)) (sym (ap (drop (between done next)) whole ∙ drop-take (between done next) (between next end) codes))
          (front_ends next (drop (between done next) codes) ends i d end are.1 (omega (arith, h)) is),
    )

pub back_ends :
    (done : End) (codes : List Code) (ends : List End) (i : ℕ) (d end : End) → AreEnds done codes ends → i < length ends → end ≡ get_or ends i d
    → AreEnds end (drop (between done end) codes) (drop (suc i) ends)
back_ends done codes [] i d end are h is = absurd (omega (arith, h))
back_ends done codes (next ∷ ends) zero d end are h is = subst (λ (e : End). AreEnds e (drop (between done e) codes) ends) (sym is) are.1
back_ends done codes (next ∷ ends) (suc i) d end are h is =
    let b = are.0 in
    let e = end_at next (drop (between done next) codes) ends i d end are.1 (omega (arith, h)) is in
    let apart : between done next + between next end ≡ between done end = omega (arith, b.some, e.later) in
    subst (λ (cs : List Code). AreEnds end cs (drop (suc i) ends)) (drop_more (between done next) (between next end) codes ∙ ap (λ (k : ℕ). drop k codes) apart)
    (back_ends next (drop (between done next) codes) ends i d end are.1 (omega (arith, h)) is)

-- the same blocks behind another end

next_two : (end : End) (codes : List Code) (ends : List End) → AreEnds end codes ends → 0 < end.count → 1 < first_block end codes ends
next_two end codes [] are some = are.1 some
next_two end codes (next ∷ ends) are some = are.0.two some

module _ (from to : End) where
  moved_sum : (done end : Sum) (part : Sum) → from.sum.kept ≤ done.kept → from.sum.deleted ≤ done.deleted → from.sum.inserted ≤ done.inserted → end ≡ added done part
      → added to.sum (subtracted end from.sum) ≡ added (added to.sum (subtracted done from.sum)) part
  moved_sum done end part kept deleted inserted is =
      ap (λ (s : Sum). added to.sum (subtracted s from.sum)) is
      ∙ same_sum _ _ _ _ _ _ (omega (arith, kept)) (omega (arith, deleted)) (omega (arith, inserted))

  pub moved_ends :
      (done : End) (codes : List Code) (ends : List End) → from.count ≤ done.count → IsBehind from done → 1 < first_block done codes ends → AreEnds done codes ends
      → AreEnds (moved from to done) codes (map (moved from to) ends)
  moved_ends done codes [] later behind two are = (are.0, λ some. two)
  moved_ends done codes (end ∷ ends) later behind two are =
      let b = are.0 in
      let next = behind_done done codes end (is_end done codes end b) in
      let same : between (moved from to done) (moved from to end) ≡ between done end = omega (arith, later, b.some) in (
        record {
          some = omega (arith, later, b.some);
          two = λ some. omega (arith, same, two);
          few = omega (arith, same, b.few);
          within = omega (arith, same, b.within);
          sum_is = moved_sum done.sum end.sum (sum_of (take (between done end) codes)) behind.kept behind.deleted behind.inserted b.sum_is
              ∙ ap (λ (k : ℕ). added (added to.sum (subtracted done.sum from.sum)) (sum_of (take k codes))) (sym same);
        },
        subst (λ (k : ℕ). AreEnds (moved from to end) (drop k codes) (map (moved from to) ends)) (sym same)
            (moved_ends end (drop (between done end) codes) ends (omega (arith, later, b.some))
            (record { kept = omega (arith, behind.kept, next.kept); deleted = omega (arith, behind.deleted, next.deleted); inserted = omega (arith, behind.inserted, next.inserted) })
            (next_two end (drop (between done end) codes) ends are.1 (omega (arith, b.some))) are.1),
      )

-- blocks behind blocks

pub joined_ends :
    (done : End) (codes more : List Code) (ends others : List End) (end : End) → AreEnds done codes ends → (last_end done ends).count < end.count
    → end.count ≡ done.count + length codes → end.sum ≡ added done.sum (sum_of codes) → AreEnds end more others → AreEnds done (codes ++ more) (ends ++ end ∷ others)
joined_ends done codes more [] others end are later count_is sum_is behind =
    let whole : between done end ≡ length codes = omega (arith, count_is) in (
      record {
        some = later;
        two = λ some. omega (arith, whole, are.1 some);
        few = omega (arith, whole, are.0);
        within = omega (arith, whole, length-append codes more);
        sum_is = sum_is ∙ ap (λ (cs : List Code). added done.sum (sum_of cs)) (sym (ap (λ (k : ℕ). take k (codes ++ more)) whole ∙ take-append_seam codes more));
      },
      subst (λ (cs : List Code). AreEnds end cs others) (sym (ap (λ (k : ℕ). drop k (codes ++ more)) whole ∙ drop-append_seam codes more)) behind,
    )
joined_ends done codes more (next ∷ ends) others end are later count_is sum_is behind =
    let b = are.0 in
    let rest : List Code = drop (between done next) codes in (
      block_longer done codes more next b,
      subst (λ (cs : List Code). AreEnds next cs (ends ++ end ∷ others)) (sym (drop-append-le (between done next) codes more b.within))
          (joined_ends next rest more ends others end are.1 later (omega (arith, count_is, b.some, b.within, length-drop (between done next) codes))
          (sum_is ∙ ap (λ (cs : List Code). added done.sum (sum_of cs)) (sym (take-append-drop (between done next) codes))
          ∙ ap (λ (s : Sum). added done.sum s) (sym (sum-append (take (between done next) codes) rest))
          ∙ added_added done.sum (sum_of (take (between done next) codes)) (sum_of rest)
          ∙ ap (λ (s : Sum). added s (sum_of rest)) (sym b.sum_is)) behind),
    )

pub small_front : (codes : List Code) (count : ℕ) → total_of codes < 67108864 → total_of (take count codes) < 67108864
small_front codes count small = omega (arith, small, total-append (take count codes) (drop count codes), ap total_of (take-append-drop count codes))

pub small_back : (codes : List Code) (count : ℕ) → total_of codes < 67108864 → total_of (drop count codes) < 67108864
small_back codes count small = omega (arith, small, total-append (take count codes) (drop count codes), ap total_of (take-append-drop count codes))

-- all of them behind others

pub may_move :
    (done base end : End) (codes : List Code) → IsEnd done codes end → total_of codes < 67108864 → base.sum.kept + base.sum.deleted + base.sum.inserted < 67108864
    → base.count + length codes < 67108864 → MayMove done base end
may_move done base end codes e small fits count_fits =
    let b = behind_done done codes end e in
    let part = small_between done codes end (subtracted end.sum done.sum) e small refl in
    record {
      behind = omega (arith, e.later);
      kept = b.kept;
      deleted = b.deleted;
      inserted = b.inserted;
      fits = omega (arith, e.later, e.within, count_fits);
      kept_fits = omega (arith, part, fits, b.kept);
      deleted_fits = omega (arith, part, fits, b.deleted);
      inserted_fits = omega (arith, part, fits, b.inserted);
    }

moved_there : (from to : End) → moved from to from ≡ to
moved_there from to =
    same_end (omega arith) (same_sum _ _ _ _ _ _ (omega arith) (omega arith) (omega arith))
  where
    same_end : {m n : ℕ} {s t : Sum} → m ≡ n → s ≡ t → ◌≡◌ {A = End} (record { sum = s; count = m }) (record { sum = t; count = n })
    same_end count sum = rw (count, sum) refl

ended_before : (codes : List Code) (ends : List End) → AreEnds start codes ends → 0 < length codes → (last_end start ends).count < length codes
ended_before codes ends are some = by (last_end start ends).count refl
  where
    by : (k : ℕ) → (last_end start ends).count ≡ k → (last_end start ends).count < length codes
    by zero is = omega (arith, is, some)
    by (suc k) is = omega (arith, (reach start codes ends are).two (omega (arith, is)))

pub added_blocks :
    (codes more : List Code) (ends others : List End) (done base : End) → AreEnds start codes ends → 0 < length codes → base.count ≡ length codes → base.sum ≡ sum_of codes
    → AreEnds done more others → 1 < first_block done more others → AreEnds start (codes ++ more) (ends ++ base ∷ map (moved done base) others)
added_blocks codes more ends others done base are some count_is sum_is behind two =
    joined_ends start codes more ends (map (moved done base) others) base are (omega (arith, ended_before codes ends are some, count_is)) (omega (arith, count_is))
    (sum_is ∙ none_added (sum_of codes))
    (subst (λ (e : End). AreEnds e more (map (moved done base) others)) (moved_there done base)
    (moved_ends done base done more others (omega arith) (record { kept = omega arith; deleted = omega arith; inserted = omega arith }) two behind))
