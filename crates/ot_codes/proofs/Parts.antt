-- Codes in two parts, which are written one after the other.
use Rattle.std.proofs.Common.{◌≡◌, ◌≤◌, List, [], ◌∷◌, ◌++◌, Some, sym, ap, subst, ◌∙◌, arith}
use Rattle.ot_operation.specs.Operation.{Operation, IsTooLong}
use Rattle.ot_operation.specs.Run.{Run, IsNormal}
use Rattle.ot_operation.specs.Steps.{with_runs}
use Rattle.ot_codes.specs.declared.code.Code.{Code}
use Rattle.ot_codes.specs.declared.code.Sum.{Sum}
use Rattle.ot_codes.specs.Codes.{runs_of, first_of, others_of, sum_of, added, subtracted}
use Rattle.ot_codes.proofs.Put.{runs_of-append}
use Rattle.ot_codes.proofs.Skipping.{normal_front}
use Rattle.ot_codes.proofs.Summing.{same_sum, sum-append}
use Rattle.ot_codes.proofs.Appending.{normal_back, short_front, with_runs-append}

pub begins : (codes : List Code) (first : Code) → first_of codes ≡ Some first → codes ≡ first ∷ others_of codes
begins [] first is = cc
begins (code ∷ codes) first is = let e : code ≡ first = cc in ap (λ x. x ∷ codes) e

module _ (codes front back : List Code) (parts : codes ≡ front ++ back) where
  runs_are : runs_of codes ≡ runs_of front ++ runs_of back
  runs_are = ap runs_of parts ∙ runs_of-append front back

  pub with_parts : (op : Operation (Unit {0})) → with_runs (with_runs op (runs_of front)) (runs_of back) ≡ with_runs op (runs_of codes)
  with_parts op = sym (ap (with_runs op) runs_are ∙ with_runs-append op (runs_of front) (runs_of back))

  pub normal_parts : IsNormal (runs_of codes) → IsNormal (runs_of front) × IsNormal (runs_of back)
  normal_parts normal =
      let both : IsNormal (runs_of front ++ runs_of back) = subst (λ (rs : List (Run (Unit {0}))). IsNormal rs) runs_are normal in
      (normal_front (runs_of front) (runs_of back) both, normal_back (runs_of front) (runs_of back) both)

  pub short_part : (op : Operation (Unit {0})) → (IsTooLong (with_runs op (runs_of codes)) → ⊥) → IsTooLong (with_runs op (runs_of front)) → ⊥
  short_part op short =
      short_front op (runs_of front) (runs_of back) (subst (λ (rs : List (Run (Unit {0}))). IsTooLong (with_runs op rs) → ⊥) runs_are short)

  -- what is left of a sum
  pub record HasParts (all first second : Sum) : Type 0 where
    pub kept : first.kept ≤ all.kept
    pub deleted : first.deleted ≤ all.deleted
    pub inserted : first.inserted ≤ all.inserted
    pub rest : subtracted all first ≡ second

  has_parts : (all first second : Sum) → all ≡ added first second → HasParts all first second
  has_parts all first second is =
      record {
        kept = omega (arith, ap (λ (s : Sum). s.kept) is);
        deleted = omega (arith, ap (λ (s : Sum). s.deleted) is);
        inserted = omega (arith, ap (λ (s : Sum). s.inserted) is);
        rest = ap (λ (s : Sum). subtracted s first) is ∙ same_sum _ _ _ _ _ _ (omega arith) (omega arith) (omega arith);
      }

  turned : (first second : Sum) → added first second ≡ added second first
  turned first second = same_sum _ _ _ _ _ _ (omega arith) (omega arith) (omega arith)

  pub without_front : (all first : Sum) → all ≡ sum_of codes → first ≡ sum_of front → HasParts all first (sum_of back)
  without_front all first is first_is =
      has_parts all first (sum_of back) (is ∙ ap sum_of parts ∙ sym (sum-append front back) ∙ ap (λ (s : Sum). added s (sum_of back)) (sym first_is))

  pub without_back : (all second : Sum) → all ≡ sum_of codes → second ≡ sum_of back → HasParts all second (sum_of front)
  without_back all second is second_is =
      has_parts all second (sum_of front)
      (is ∙ ap sum_of parts ∙ sym (sum-append front back) ∙ turned (sum_of front) (sum_of back) ∙ ap (λ (s : Sum). added s (sum_of front)) (sym second_is))
