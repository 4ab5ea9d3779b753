-- Codes that are read at once.
use Rattle.std.proofs.Common.{◌≡◌, ℕ, zero, suc, ◌+◌, ◌-◌, ◌<◌, ◌≤◌, List, [], ◌∷◌, ◌++◌, length, take, drop, Option, Some, None, refl, sym, ap, subst, ◌∙◌, arith, append-nil, append_assoc}
use Rattle.std.proofs.lemmas.List.{take-append-drop}
use Rattle.ot_codes.specs.declared.code.Code.{Code}
use Rattle.ot_codes.specs.declared.code.Code.TheVariants.{Retain, Insert, Delete}
use Rattle.ot_codes.specs.declared.code.Sum.{Sum}
use Rattle.ot_codes.specs.declared.cursor.Measure.{Measure}
use Rattle.ot_codes.specs.declared.cursor.Measure.TheVariants.{Taken, Made}
use Rattle.ot_codes.specs.Codes.{length_of, counted, codes_left, first_of, others_of, total_of, sum_of, added}
use Rattle.ot_codes.specs.Runs.{IsHead, IsPartOf, IsRun, IsSumOf, measured, read_codes}
use Rattle.ot_codes.proofs.Summing.{counted_more, sum-append, total-append, total_in}
use Rattle.ot_codes.proofs.Appending.{rest_of}

abbrev none : Sum
none = record { kept = 0; deleted = 0; inserted = 0 }

-- the code at hand, and what is behind it

pub left_is : (head : Option Code) (codes : List Code) (first : Code) → first_of (codes_left head codes) ≡ Some first → codes_left head codes ≡ first ∷ codes
left_is None codes first is = cc
left_is (Some code) codes first is = let e : code ≡ first = cc in ap (λ x. x ∷ codes) e

whole_of_one : (code : Code) → (counted none code).kept + (counted none code).deleted + (counted none code).inserted ≡ length_of code
whole_of_one (Retain n) = omega arith
whole_of_one (Insert n) = omega arith
whole_of_one (Delete n) = omega arith

-- a sum of codes is their total
sum_total : (codes : List Code) (sum : Sum) → sum ≡ sum_of codes → sum.kept + sum.deleted + sum.inserted ≡ total_of codes
sum_total codes sum is = ap (λ (s : Sum). s.kept + s.deleted + s.inserted) is ∙ sym (total_in codes)

-- what is left of a block

pub head_is : (head : Option Code) (codes : List Code) (first : Code) → first_of (codes_left head codes) ≡ Some first → head ≡ Some first
head_is None codes first is = cc
head_is (Some code) codes first is = is

pub part_of : (head : Option Code) (block : List Code) (first : Code) → head ≡ Some first → IsHead head block → IsPartOf first block
part_of head block first is part = subst (λ (h : Option Code). IsHead h block) is part

pub block_whole : (first : Code) (block : List Code) → Some first ≡ first_of block → block ≡ first ∷ others_of block
block_whole first [] is = cc
block_whole first (code ∷ codes) is = let e : first ≡ code = cc in ap (λ x. x ∷ codes) (sym e)

pub block_sum :
    (head : Option Code) (block : List Code) (known : Option Sum) (sum : Sum) (first : Code) → known ≡ Some sum → head ≡ Some first → IsSumOf known head block
    → sum ≡ sum_of (codes_left head (others_of block))
block_sum head block known sum first is head_at whole =
    let all : (head ≡ first_of block) × (sum ≡ sum_of block) = subst (λ (s : Option Sum). IsSumOf s head block) is whole in
    all.1 ∙ ap sum_of (block_whole first block (sym head_at ∙ all.0)) ∙ sym (ap (λ (h : Option Code). sum_of (codes_left h (others_of block))) head_at)

pub part_taken : (first : Code) (block : List Code) (count more : ℕ) → count ≡ more + 1 → IsPartOf first block → IsPartOf first (take count block)
part_taken first [] count more is part = absurd part
part_taken first (code ∷ codes) count more is part =
    let later : count ≡ suc more = omega (arith, is) in
    subst (λ (k : ℕ). IsPartOf first (take k (code ∷ codes))) (sym later) part

pub others_taken : (block : List Code) (count more : ℕ) → count ≡ more + 1 → others_of (take count block) ≡ take more (others_of block)
others_taken [] count more is = ap others_of (take_none count) ∙ sym (take_none more)
  where
    take_none : (k : ℕ) → ◌≡◌ {A = List Code} (take k []) []
    take_none zero = refl
    take_none (suc k) = refl
others_taken (code ∷ codes) count more is =
    let later : count ≡ suc more = omega (arith, is) in
    ap (λ (k : ℕ). others_of (take k (code ∷ codes))) later

others_dropped : (block : List Code) (more : ℕ) → drop (suc more) block ≡ drop more (others_of block)
others_dropped [] zero = refl
others_dropped [] (suc more) = refl
others_dropped (code ∷ codes) more = refl

-- what is left of a slice
pub block_rest : (block : List Code) (count more : ℕ) → count ≡ more + 1 → take (length block - count) (drop count block) ≡ drop more (others_of block)
block_rest block count more is =
    let later : count ≡ suc more = omega (arith, is) in
    rest_of block count ∙ ap (λ (k : ℕ). drop k block) later ∙ others_dropped block more

-- what is read is no more than what is left
pub run_is :
    (limit : ℕ) (by : Measure) (now : List Code) (first : Code) (block more behind : List Code) (sum more_sum : Sum) → IsPartOf first block → length block ≤ 64
    → now ≡ read_codes first block more ++ behind → sum ≡ sum_of (read_codes first block more) → more_sum ≡ sum_of more → measured by sum ≤ limit → total_of now < 67108864
    → IsRun limit by now first block more sum more_sum behind
run_is limit by now first block more behind sum more_sum part few parts sum_is more_is fits small =
    record {
      read = record { part = part; few = few; sum_is = sum_is; more_is = more_is };
      parts = parts;
      fits = fits;
      small = omega (
        arith,
        sum_total (read_codes first block more) sum sum_is,
        small,
        ap total_of parts,
        total-append (read_codes first block more) behind,
      );
    }

pub measured-added : (by : Measure) (sum more : Sum) → measured by (added sum more) ≡ measured by sum + measured by more
measured-added Taken sum more = omega arith
measured-added Made sum more = omega arith

module _ (now : List Code) (head : Option Code) (rest after : List Code) (first : Code) (view_is : codes_left head (rest ++ after) ≡ now) (small : total_of (codes_left head (rest ++ after)) < 67108864) where
  now_small : total_of now < 67108864
  now_small = omega (arith, small, ap total_of view_is)

  -- a part of the block
  module _ (first_is : first_of now ≡ Some first) where
    now_is : now ≡ first ∷ (rest ++ after)
    now_is = sym view_is ∙ left_is head (rest ++ after) first (ap first_of view_is ∙ first_is)

    all_small : length_of first + (total_of rest + total_of after) < 67108864
    all_small = omega (arith, small, ap total_of (view_is ∙ now_is), total-append rest after)

    pub rest_small : (from : Sum) → from ≡ counted none first → from.kept + from.deleted + from.inserted + total_of rest < 67108864
    rest_small from is = omega (arith, all_small, ap (λ (s : Sum). s.kept + s.deleted + s.inserted) is, whole_of_one first)

    pub behind_small : (count : ℕ) (last : List Code) → last ≡ drop count rest → total_of (last ++ after) < 67108864
    behind_small count last is =
        omega (arith, all_small, ap total_of is, total-append last after, ap total_of (take-append-drop count rest), total-append (take count rest) (drop count rest))

    pub part_is :
        (limit : ℕ) (by : Measure) (count : ℕ) (block last behind : List Code) (from sum : Sum) → IsPartOf first block → length block ≤ 64 → from ≡ counted none first
        → others_of block ≡ take count rest → last ≡ drop count rest → behind ≡ last ++ after → sum ≡ added from (sum_of (take count rest)) → measured by sum ≤ limit
        → IsRun limit by now first block [] sum none behind
    part_is limit by count block last behind from sum part few from_is others_is last_is behind_is sum_is fits =
        let read : first ∷ take count rest ≡ read_codes first block [] = ap (λ (cs : List Code). first ∷ cs) (sym others_is ∙ sym (append-nil (others_of block))) in
        run_is limit by now first block [] behind sum none part few
        (now_is ∙ ap (λ (cs : List Code). first ∷ (cs ++ after)) (sym (take-append-drop count rest))
        ∙ ap (λ (cs : List Code). first ∷ cs) (append_assoc (take count rest) (drop count rest) after)
        ∙ ap (λ (cs : List Code). (first ∷ take count rest) ++ cs) (ap (λ (cs : List Code). cs ++ after) (sym last_is) ∙ sym behind_is)
        ∙ ap (λ (cs : List Code). cs ++ behind) read)
        (sum_is ∙ ap (λ s. added s (sum_of (take count rest))) (from_is ∙ counted_more [] first) ∙ sum-append (first ∷ []) (take count rest) ∙ ap sum_of read)
        refl fits now_small

  -- the whole block, and others behind it
  module _ (head_is : head ≡ Some first) where
    whole_is : now ≡ first ∷ (rest ++ after)
    whole_is = sym view_is ∙ ap (λ (h : Option Code). codes_left h (rest ++ after)) head_is

    block_small : length_of first + (total_of rest + total_of after) < 67108864
    block_small = omega (arith, small, ap total_of (view_is ∙ whole_is), total-append rest after)

    block_is : (sum : Sum) → sum ≡ sum_of (codes_left head rest) → sum ≡ sum_of (first ∷ rest)
    block_is sum is = is ∙ ap (λ (h : Option Code). sum_of (codes_left h rest)) head_is

    pub sum_small : (sum : Sum) → sum ≡ sum_of (codes_left head rest) → sum.kept + sum.deleted + sum.inserted < 67108864
    sum_small sum is = omega (arith, block_small, sum_total (first ∷ rest) sum (block_is sum is))

    module _ (more behind : List Code) (sum more_sum : Sum) (sum_is : sum ≡ sum_of (codes_left head rest)) (parts : after ≡ more ++ behind) (more_is : more_sum ≡ sum_of more) where
      pub both_small : sum.kept + sum.deleted + sum.inserted + (more_sum.kept + more_sum.deleted + more_sum.inserted) < 67108864
      both_small =
          omega (arith, block_small, sum_total (first ∷ rest) sum (block_is sum sum_is), sum_total more more_sum more_is, ap total_of parts, total-append more behind)

      pub whole_block :
          (limit : ℕ) (by : Measure) (block : List Code) (all : Sum) → IsPartOf first block → length block ≤ 64 → others_of block ≡ rest → all ≡ added sum more_sum
          → measured by sum + measured by more_sum ≤ limit → IsRun limit by now first block more all more_sum behind
      whole_block limit by block all part few others_is all_is fits =
          let read : first ∷ (rest ++ more) ≡ read_codes first block more = ap (λ (cs : List Code). first ∷ (cs ++ more)) (sym others_is) in
          run_is limit by now first block more behind all more_sum part few
          (whole_is ∙ ap (λ (cs : List Code). first ∷ (rest ++ cs)) parts ∙ ap (λ (cs : List Code). first ∷ cs) (sym (append_assoc rest more behind))
          ∙ ap (λ (cs : List Code). cs ++ behind) read)
          (all_is ∙ ap (λ (s : Sum). added s more_sum) (block_is sum sum_is) ∙ ap (λ (s : Sum). added (sum_of (first ∷ rest)) s) more_is ∙ sum-append (first ∷ rest) more ∙ ap sum_of read)
          more_is (omega (arith, fits, measured-added by sum more_sum, ap (measured by) all_is)) now_small
