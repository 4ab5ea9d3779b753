-- Runs without the first elements of their first run.
use Rattle.std.proofs.Common.{◌≡◌, ℕ, suc, zero, ◌+◌, ◌-◌, List, ◌∷◌, ◌++◌, replicate, refl, ap, arith}
use borrow.Author.Tests.{eq-eqb, ne_eqb}
use Rattle.ot_operation.specs.Run.{Run, base_of, IsNormal, Keep, Skip}
use Rattle.ot_operation.specs.Steps.{target_of, skipped}
use Rattle.ot_operation.proofs.Slots.Slot.{Gone}
use Rattle.ot_operation.proofs.RunSlots.{stays, slots_of_runs, no_front, after_delete}
use Rattle.ot_operation.proofs.MergeSteps.{gone}

-- what is skipped is either the whole first run or less
pub skipped_retain-whole :
    {A : Type 0} (count all : ℕ) (runs : List (Run A)) → all ≡ count + 0 → skipped count (Keep all ∷ runs) ≡ runs
skipped_retain-whole count all runs e = rw (eq-eqb count all (omega (arith, e))) refl

pub skipped_retain-part :
    {A : Type 0} (count all m : ℕ) (runs : List (Run A)) → all ≡ count + suc m → skipped count (Keep all ∷ runs) ≡ Keep (suc m) ∷ runs
skipped_retain-part count all m runs e =
    let left : all - count ≡ suc m = omega (arith, e) in
    rw (ne_eqb count all (omega (arith, e)), left) refl

pub skipped_delete-whole :
    {A : Type 0} (count all : ℕ) (runs : List (Run A)) → all ≡ count + 0 → skipped count (Skip all ∷ runs) ≡ runs
skipped_delete-whole count all runs e = rw (eq-eqb count all (omega (arith, e))) refl

pub skipped_delete-part :
    {A : Type 0} (count all m : ℕ) (runs : List (Run A)) → all ≡ count + suc m → skipped count (Skip all ∷ runs) ≡ Skip (suc m) ∷ runs
skipped_delete-part count all m runs e =
    let left : all - count ≡ suc m = omega (arith, e) in
    rw (ne_eqb count all (omega (arith, e)), left) refl

-- the form of normal runs that begin with a delete
pub delete_form :
    {A : Type 0} (all : ℕ) (runs : List (Run A)) → IsNormal (Skip all ∷ runs)
    → slots_of_runs (Skip all ∷ runs) ≡ gone all (slots_of_runs runs).1
delete_form all runs normal =
    ap (λ front. (front, replicate all Gone ++ (slots_of_runs runs).1)) (no_front runs (after_delete all runs normal.1) normal.2)

-- what a skip of retained elements leaves
pub record RetainSkipped {A : Type 0} (count m : ℕ) (runs before after : List (Run A)) : Type 0 where
  pub normal : IsNormal after
  pub base : base_of after + count ≡ base_of before
  pub target : target_of after + count ≡ target_of before
  pub form : slots_of_runs after ≡ stays m (slots_of_runs runs)

pub skipped_retain :
    {A : Type 0} (count all m : ℕ) (runs : List (Run A)) → IsNormal (Keep all ∷ runs) → all ≡ count + m
    → RetainSkipped count m runs (Keep all ∷ runs) (skipped count (Keep all ∷ runs))
skipped_retain count all zero runs normal e =
    rw (skipped_retain-whole count all runs e)
    (record { normal = normal.2; base = omega (arith, e); target = omega (arith, e); form = refl })
skipped_retain count all (suc m) runs normal e =
    rw (skipped_retain-part count all m runs e)
    (record { normal = (omega arith, normal.1, normal.2); base = omega (arith, e); target = omega (arith, e); form = refl })

pub record DeleteSkipped {A : Type 0} (count m : ℕ) (runs before after : List (Run A)) : Type 0 where
  pub normal : IsNormal after
  pub base : base_of after + count ≡ base_of before
  pub target : target_of after ≡ target_of before
  pub form : slots_of_runs after ≡ gone m (slots_of_runs runs).1

pub skipped_delete :
    {A : Type 0} (count all m : ℕ) (runs : List (Run A)) → IsNormal (Skip all ∷ runs) → all ≡ count + m
    → DeleteSkipped count m runs (Skip all ∷ runs) (skipped count (Skip all ∷ runs))
skipped_delete count all zero runs normal e =
    rw (skipped_delete-whole count all runs e)
    (record {
      normal = normal.2;
      base = omega (arith, e);
      target = refl;
      form = ap (λ front. (front, (slots_of_runs runs).1)) (no_front runs (after_delete all runs normal.1) normal.2);
    })
skipped_delete count all (suc m) runs normal e =
    rw (skipped_delete-part count all m runs e)
    (record {
      normal = (omega arith, normal.1, normal.2);
      base = omega (arith, e);
      target = refl;
      form = delete_form (suc m) runs (omega arith, normal.1, normal.2);
    })
