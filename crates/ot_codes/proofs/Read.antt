-- Lists of codes from their first one on.
use Rattle.std.proofs.Common.{◌≡◌, ℕ, zero, suc, ◌+◌, ◌-◌, ◌<◌, ◌≤◌, List, [], ◌∷◌, Bool, true, false, Some, None, nat_eq, if◌then◌else◌, refl, sym, ap, arith}
use borrow.Author.Tests.{eq-eqb, ne_eqb}
use Rattle.ot_operation.specs.Run.{Keep, Skip, IsNormal}
use Rattle.ot_operation.specs.Steps.{skipped}
use Rattle.ot_operation.proofs.RunSlots.{StartsOtherwise}
use Rattle.ot_codes.specs.declared.code.Code.{Code}
use Rattle.ot_codes.specs.declared.code.Code.TheVariants.{Retain, Insert, Delete}
use Rattle.ot_codes.specs.Codes.{run_of, runs_of, length_of, with_length, first_of, head_of, insertion_of, others_of, without, HasFirst, total_of}
use Rattle.ot_codes.proofs.Put.{length-blanks}

pub inserts : (codes : List Code) (count : ℕ) → insertion_of codes ≡ Some count → codes ≡ Insert count ∷ others_of codes
inserts [] count is = cc
inserts (Retain n ∷ codes) count is = cc
inserts (Insert n ∷ codes) count is = let e : n ≡ count = cc in ap (λ m. Insert m ∷ codes) e
inserts (Delete n ∷ codes) count is = cc

-- the code at hand of codes that are read

pub inserts_first : (codes : List Code) (count : ℕ) → head_of codes ≡ Insert count → insertion_of codes ≡ Some count
inserts_first [] count is = cc
inserts_first (Retain n ∷ codes) count is = cc
inserts_first (Insert n ∷ codes) count is = let e : n ≡ count = cc in ap Some e
inserts_first (Delete n ∷ codes) count is = cc

pub inserts_nothing : (codes : List Code) → ((n : ℕ) → head_of codes ≡ Insert n → ⊥) → insertion_of codes ≡ None
inserts_nothing [] other = refl
inserts_nothing (Retain n ∷ codes) other = refl
inserts_nothing (Insert n ∷ codes) other = absurd (other n refl)
inserts_nothing (Delete n ∷ codes) other = refl

pub head_there : (codes : List Code) (code : Code) → code ≡ head_of codes → 0 < length_of code → first_of codes ≡ Some code
head_there [] code is some = absurd (omega (arith, some, ap length_of is))
head_there (c ∷ codes) code is some = ap Some (sym is)

pub none_left : (codes : List Code) → first_of codes ≡ None → codes ≡ []
none_left [] is = refl
none_left (c ∷ codes) is = cc

pub otherwise : (codes : List Code) → insertion_of codes ≡ None → StartsOtherwise (runs_of codes)
otherwise [] other = tt
otherwise (Retain n ∷ codes) other = tt
otherwise (Insert n ∷ codes) other = cc
otherwise (Delete n ∷ codes) other = tt

-- a code of codes in normal form is not empty
pub filled_first : (code : Code) (codes : List Code) → IsNormal (runs_of (code ∷ codes)) → 0 < length_of code
filled_first (Retain n) codes normal = normal.0
filled_first (Insert n) codes normal = omega (arith, normal.0, length-blanks n)
filled_first (Delete n) codes normal = normal.0

-- so where none is at hand, nothing is left
pub head_gone : (codes : List Code) (code : Code) → code ≡ head_of codes → IsNormal (runs_of codes) → length_of code ≡ 0 → first_of codes ≡ None
head_gone [] code is normal none = refl
head_gone (c ∷ codes) code is normal none = absurd (omega (arith, filled_first c codes normal, none, ap length_of is))

-- without the first elements

runs_if :
    (b : Bool) (codes : List Code) (code : Code)
    → runs_of (if b then codes else code ∷ codes) ≡ (if b then runs_of codes else run_of code ∷ runs_of codes)
runs_if true codes code = refl
runs_if false codes code = refl

pub without_keep : (count n : ℕ) (codes : List Code) → runs_of (without count (Retain n ∷ codes)) ≡ skipped count (Keep n ∷ runs_of codes)
without_keep count n codes = runs_if (nat_eq count n) codes (Retain (n - count))

pub without_skip : (count n : ℕ) (codes : List Code) → runs_of (without count (Delete n ∷ codes)) ≡ skipped count (Skip n ∷ runs_of codes)
without_skip count n codes = runs_if (nat_eq count n) codes (Delete (n - count))

-- how much is left to do

total-with_length : (code : Code) (n : ℕ) (codes : List Code) → total_of (with_length code n ∷ codes) ≡ n + total_of codes
total-with_length (Retain m) n codes = omega arith
total-with_length (Insert m) n codes = omega arith
total-with_length (Delete m) n codes = omega arith

pub total-without : (count : ℕ) (codes : List Code) → HasFirst count codes → total_of (without count codes) + count ≡ total_of codes
total-without count [] has = absurd has
total-without count (code ∷ codes) has = by (length_of code - count) (omega (arith, has))
  where
    by : (m : ℕ) → length_of code ≡ count + m → total_of (without count (code ∷ codes)) + count ≡ total_of (code ∷ codes)
    by zero e = rw (eq-eqb count (length_of code) (omega (arith, e))) (omega (arith, e))
    by (suc m) e =
        rw (ne_eqb count (length_of code) (omega (arith, e)))
        (omega (arith, e, total-with_length code (length_of code - count) codes))

pub has_first :
    (count : ℕ) (codes : List Code) (code : Code) → first_of codes ≡ Some code → 0 < count → count ≤ length_of code → HasFirst count codes
has_first count [] code is some within = cc
has_first count (c ∷ codes) code is some within =
    let e : c ≡ code = cc in (some, omega (arith, within, ap length_of e))

pub filled_head : (codes : List Code) (code : Code) → first_of codes ≡ Some code → IsNormal (runs_of codes) → 0 < length_of code
filled_head [] code is normal = cc
filled_head (c ∷ codes) code is normal =
    let e : c ≡ code = cc in omega (arith, filled_first c codes normal, ap length_of e)
