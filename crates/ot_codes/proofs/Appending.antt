-- Codes behind codes.
use Rattle.std.proofs.Common.{◌≡◌, ℕ, zero, suc, ◌+◌, ◌-◌, ◌<◌, ◌≤◌, List, [], ◌∷◌, ◌++◌, length, take, drop, get_or, max, true, sym, ap, subst, ◌∙◌, arith, append_assoc, length-append, length-drop}
use Rattle.std.proofs.lemmas.List.{take-append-drop}
use Rattle.std.proofs.Math.Seq.{take-length}
use Rattle.ot_operation.specs.Operation.{Operation, IsTooLong}
use Rattle.ot_operation.specs.Run.{Run, Keep, Add, Skip, base_of, image_from, operation_of, MayFollow, IsNormal}
use Rattle.ot_operation.specs.Steps.{with_runs}
use Rattle.ot_operation.proofs.RunLemmas.{MayEnd, base_of-append, image_from-append, same_operation}
use Rattle.ot_operation.specs.Steps.{appended}
use Rattle.ot_operation.proofs.RunLengths.{length-image_from}
use Rattle.ot_operation.proofs.KeptRuns.{with_runs-none, with_runs-keep, with_runs-add, with_runs-skip}
use Rattle.ot_codes.specs.declared.code.Code.{Code}
use Rattle.ot_codes.specs.declared.code.Code.TheVariants.{Retain, Insert, Delete}
use Rattle.ot_codes.specs.declared.code.Sum.{Sum}
use Rattle.ot_codes.specs.Codes.{run_of, runs_of, spelled, kept_in, deleted_in, inserted_in, sum_of, added, precedes, AreSound, MayEndWith}
use Rattle.ot_codes.proofs.Put.{runs_of-append}
use Rattle.ot_codes.proofs.Summing.{same_sum, sum-append, take_more}
use Rattle.ot_codes.proofs.Skipping.{base_in, target_in}
use Rattle.ot_codes.proofs.Marked.{size-spelled}

-- runs behind an operation

pub with_runs-append :
    {A : Type 0} (op : Operation A) (xs ys : List (Run A)) → with_runs op (xs ++ ys) ≡ with_runs (with_runs op xs) ys
with_runs-append {A} op xs ys =
    same_operation _ _ _ _ (omega (arith, base_of-append xs ys))
    (ap (λ rest. op.image ++ rest) (image_from-append op.base xs ys)
    ∙ sym (append_assoc op.image (image_from op.base xs) (image_from (op.base + base_of xs) ys)))

pub with_one : {A : Type 0} (op : Operation A) (run : Run A) → with_runs op (run ∷ []) ≡ appended op run
with_one op (Keep n) = sym (with_runs-keep op n []) ∙ with_runs-none _
with_one op (Add text) = sym (with_runs-add op text []) ∙ with_runs-none _
with_one op (Skip n) = sym (with_runs-skip op n []) ∙ with_runs-none _

pub spelled-append : (xs ys : List Code) → spelled (xs ++ ys) ≡ with_runs (spelled xs) (runs_of ys)
spelled-append xs ys =
    ap operation_of (runs_of-append xs ys)
    ∙ same_operation _ _ _ _ (base_of-append (runs_of xs) (runs_of ys))
    (image_from-append 0 (runs_of xs) (runs_of ys)
    ∙ ap (λ k. image_from 0 (runs_of xs) ++ image_from k (runs_of ys)) (let e : 0 + base_of (runs_of xs) ≡ base_of (runs_of xs) = omega arith in e))

-- what is too long stays so
pub longer_still : {A : Type 0} (op : Operation A) (xs : List (Run A)) → IsTooLong op → IsTooLong (with_runs op xs)
longer_still op xs long =
    let more = length-append op.image (image_from op.base xs) in
    let long_op : 1000000 < max op.base (length op.image) = long in
    let longer : 1000000 < max (op.base + base_of xs) (length (op.image ++ image_from op.base xs)) = omega (arith, more, long_op) in
    longer

pub short_front : {A : Type 0} (op : Operation A) (xs ys : List (Run A)) → (IsTooLong (with_runs op (xs ++ ys)) → ⊥) → IsTooLong (with_runs op xs) → ⊥
short_front {A} op xs ys short long = short (subst (λ (o : Operation A). IsTooLong o) (sym (with_runs-append op xs ys)) (longer_still (with_runs op xs) ys long))

-- normal forms behind one another

pub normal_append : {A : Type 0} (xs : List (Run A)) (y : Run A) (ys : List (Run A)) → IsNormal xs → IsNormal (y ∷ ys) → MayEnd xs y → IsNormal (xs ++ y ∷ ys)
normal_append [] y ys p q e = q
normal_append (x ∷ []) y ys p q e = (p.0, e, q)
normal_append (x ∷ z ∷ xs) y ys p q e = (p.0, p.1, normal_append (z ∷ xs) y ys p.2 q e)

pub may_end : (codes : List Code) (code : Code) → MayEndWith codes code → MayEnd (runs_of codes) (run_of code)
may_end [] code may = tt
may_end (c ∷ []) code may = may
may_end (c ∷ d ∷ codes) code may = may_end (d ∷ codes) code may

pub may_end_at :
    (codes : List Code) (k : ℕ) (last code : Code) → k + 1 ≡ length codes → last ≡ get_or codes k last → MayFollow (run_of last) (run_of code) → MayEndWith codes code
may_end_at [] k last code h is may = absurd (omega (arith, h))
may_end_at (c ∷ []) zero last code h is may = subst (λ c. MayFollow (run_of c) (run_of code)) is may
may_end_at (c ∷ []) (suc k) last code h is may = absurd (omega (arith, h))
may_end_at (c ∷ d ∷ codes) zero last code h is may = absurd (omega (arith, h))
may_end_at (c ∷ d ∷ codes) (suc k) last code h is may = may_end_at (d ∷ codes) k last code (omega (arith, h)) is may

-- codes and their sum

pub sound_is : (codes : List Code) (sum : Sum) → AreSound codes sum → sum ≡ sum_of codes
sound_is codes sum sound =
    let base = base_in codes in
    let inserted = size-spelled 0 codes in
    let target = length-image_from 0 (runs_of codes) in
    let made = target_in codes in
    same_sum sum.kept (kept_in codes) sum.deleted (deleted_in codes) sum.inserted (inserted_in codes)
    (omega (arith, base, inserted, target, made, sound.base_is, sound.target_is, sound.inserted_is))
    (omega (arith, base, inserted, target, made, sound.base_is, sound.target_is, sound.inserted_is))
    (omega (arith, inserted, sound.inserted_is))

pub sound_of : (codes : List Code) (sum : Sum) → sum ≡ sum_of codes → IsNormal (runs_of codes) → (IsTooLong (spelled codes) → ⊥) → AreSound codes sum
sound_of codes sum is normal short =
    let base = base_in codes in
    let inserted = size-spelled 0 codes in
    let target = length-image_from 0 (runs_of codes) in
    let made = target_in codes in
    let fits : max (base_of (runs_of codes)) (length (image_from 0 (runs_of codes))) ≤ 1000000 = by short in
    rw is
    (record {
      normal = normal;
      base_is = sym base;
      target_is = omega (arith, target, made);
      inserted_is = sym inserted;
      base_fits = omega (arith, base, fits);
      target_fits = omega (arith, target, made, fits);
    })
  where
    by : ((1000000 < max (base_of (runs_of codes)) (length (image_from 0 (runs_of codes)))) → ⊥) → max (base_of (runs_of codes)) (length (image_from 0 (runs_of codes))) ≤ 1000000
    by not = omega (arith, not)

-- codes behind codes that they may follow
pub sound_extended :
    (old new more : List Code) (sum next : Sum) (first : Code) (others : List Code) → AreSound old sum → new ≡ old ++ more → more ≡ first ∷ others → MayEndWith old first
    → IsNormal (runs_of more) → (IsTooLong (with_runs (spelled old) (runs_of more)) → ⊥) → next ≡ added sum (sum_of more) → AreSound new next
sound_extended old new more sum next first others sound new_is more_is may normal short next_is =
    let runs : runs_of new ≡ runs_of old ++ run_of first ∷ runs_of others = ap runs_of (new_is ∙ ap (λ m. old ++ m) more_is) ∙ runs_of-append old (first ∷ others) in
    let spells : spelled new ≡ with_runs (spelled old) (runs_of more) = ap spelled new_is ∙ spelled-append old more in
    sound_of new next
    (next_is ∙ ap (λ s. added s (sum_of more)) (sound_is old sum sound) ∙ sum-append old more ∙ ap sum_of (sym new_is))
    (rw runs (normal_append (runs_of old) (run_of first) (runs_of others) sound.normal (subst (λ m. IsNormal (runs_of m)) more_is normal) (may_end old first may)))
    (subst (λ op. IsTooLong op → ⊥) (sym spells) short)

-- part by part

pub normal_back : {A : Type 0} (xs ys : List (Run A)) → IsNormal (xs ++ ys) → IsNormal ys
normal_back [] ys normal = normal
normal_back (x ∷ xs) ys normal = normal_back xs ys normal.2

pub parts_at : (codes : List Code) (i : ℕ) → runs_of codes ≡ runs_of (take i codes) ++ runs_of (drop i codes)
parts_at codes i = ap runs_of (sym (take-append-drop i codes)) ∙ runs_of-append (take i codes) (drop i codes)

module _ (op : Operation (Unit {0})) (codes : List Code) (i : ℕ) where
  pub with_rest : with_runs (with_runs op (runs_of (take i codes))) (runs_of (drop i codes)) ≡ with_runs op (runs_of codes)
  with_rest = sym (ap (with_runs op) (parts_at codes i) ∙ with_runs-append op (runs_of (take i codes)) (runs_of (drop i codes)))

  pub with_next :
      (d code : Code) → i < length codes → code ≡ get_or codes i d
      → with_runs op (runs_of (take (suc i) codes)) ≡ appended (with_runs op (runs_of (take i codes))) (run_of code)
  with_next d code h is =
      ap (λ cs. with_runs op (runs_of cs)) (take_more codes i d h ∙ ap (λ c. take i codes ++ c ∷ []) (sym is))
      ∙ ap (with_runs op) (runs_of-append (take i codes) (code ∷ []))
      ∙ with_runs-append op (runs_of (take i codes)) (run_of code ∷ [])
      ∙ with_one (with_runs op (runs_of (take i codes))) (run_of code)

  pub short_next :
      (d code : Code) → i < length codes → code ≡ get_or codes i d → (IsTooLong (with_runs op (runs_of codes)) → ⊥)
      → IsTooLong (appended (with_runs op (runs_of (take i codes))) (run_of code)) → ⊥
  short_next d code h is short long =
      short_front op (runs_of (take (suc i) codes)) (runs_of (drop (suc i) codes))
      (subst (λ (rs : List (Run (Unit {0}))). IsTooLong (with_runs op rs) → ⊥) (parts_at codes (suc i)) short)
      (subst (λ (o : Operation (Unit {0})). IsTooLong o) (sym (with_next d code h is)) long)

-- what is not too long has no large sum
pub small_sum :
    (op : Operation (Unit {0})) (codes : List Code) → (IsTooLong (with_runs op (runs_of codes)) → ⊥)
    → (kept_in codes + deleted_in codes ≤ 1000000) × (kept_in codes + inserted_in codes ≤ 1000000)
small_sum op codes short =
    let fits = by short in
    let long = length-append op.image (image_from op.base (runs_of codes)) in
    let made = length-image_from op.base (runs_of codes) in
    (omega (arith, fits, base_in codes), omega (arith, fits, long, made, target_in codes))
  where
    by :
        (1000000 < max (op.base + base_of (runs_of codes)) (length (op.image ++ image_from op.base (runs_of codes))) → ⊥)
        → max (op.base + base_of (runs_of codes)) (length (op.image ++ image_from op.base (runs_of codes))) ≤ 1000000
    by not = omega (arith, not)

pub may_follow : (last code : Code) → precedes last code ≡ true → MayFollow (run_of last) (run_of code)
may_follow (Retain m) (Retain n) is = cc
may_follow (Retain m) (Insert n) is = tt
may_follow (Retain m) (Delete n) is = tt
may_follow (Insert m) (Retain n) is = tt
may_follow (Insert m) (Insert n) is = cc
may_follow (Insert m) (Delete n) is = tt
may_follow (Delete m) (Retain n) is = tt
may_follow (Delete m) (Insert n) is = cc
may_follow (Delete m) (Delete n) is = cc

pub first_part : (codes : List Code) (first : Code) → 0 < length codes → first ≡ get_or codes 0 first → codes ≡ first ∷ drop 1 codes
first_part [] first some is = absurd (omega (arith, some))
first_part (c ∷ codes) first some is = ap (λ x. x ∷ codes) (sym is)

-- what is left of a slice from a place on
pub rest_of : (codes : List Code) (i : ℕ) → take (length codes - i) (drop i codes) ≡ drop i codes
rest_of codes i = ap (λ k. take k (drop i codes)) (sym (length-drop i codes)) ∙ take-length (drop i codes)

pub normal_rest : (codes : List Code) (i : ℕ) → IsNormal (runs_of codes) → IsNormal (runs_of (take (length codes - i) (drop i codes)))
normal_rest codes i normal =
    subst (λ (cs : List Code). IsNormal (runs_of cs)) (sym (rest_of codes i))
    (normal_back (runs_of (take i codes)) (runs_of (drop i codes)) (subst (λ (rs : List (Run (Unit {0}))). IsNormal rs) (parts_at codes i) normal))

-- the rest of codes, behind those that are appended
pub appended_rest :
    (op now : Operation (Unit {0})) (codes : List Code) (i : ℕ) → now ≡ with_runs op (runs_of (take i codes))
    → with_runs now (runs_of (take (length codes - i) (drop i codes))) ≡ with_runs op (runs_of codes)
appended_rest op now codes i now_is =
    ap (λ (cs : List Code). with_runs now (runs_of cs)) (rest_of codes i)
    ∙ ap (λ (o : Operation (Unit {0})). with_runs o (runs_of (drop i codes))) now_is
    ∙ with_rest op codes i
