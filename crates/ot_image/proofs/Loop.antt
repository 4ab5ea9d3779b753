-- A step of reading that is repeated, as a loop does.
use Rattle.std.proofs.Common.{◌≡◌, ℕ, suc, zero, ◌-◌, ◌+◌, ◌≤◌, ◌<◌, Result, Ok, Err, subst, refl, sym, ap, ◌∙◌, arith}
use Rattle.ot_image.specs.declared.fault.ImageFault.{ImageFault}
use Rattle.ot_image.specs.declared.fault.ReadError.{ReadError}
use Rattle.ot_image.specs.declared.fault.ReadError.TheVariants as errors
use Rattle.ot_image.specs.Reading.{Spot, ◌>>=◌, Reaches, Fails, times}

-- a reader never goes back
abbrev pub IsOnward : {A : Type 0} → (Spot → Result (A × Spot) ImageFault) → Type 0
IsOnward read = (s : Spot) → Reaches s.at (read s)

-- what reaches a place reaches those before it
pub reaches_before : {A : Type 0} (early late : ℕ) (r : Result (A × Spot) ImageFault) → early ≤ late → Reaches late r → Reaches early r
reaches_before early late (Ok x) h k = omega (arith, h, k)
reaches_before early late (Err f) h k = omega (arith, h, k)

pub reaches_then : {A B : Type 0} (at : ℕ) (r : Result (A × Spot) ImageFault) (more : A × Spot → Result (B × Spot) ImageFault)
    → Reaches at r → ((x : A) → IsOnward (λ s. more (x, s))) → Reaches at (r >>= more)
reaches_then at (Ok x) more h on = reaches_before at x.1.at (more x) h (on x.0 x.1)
reaches_then at (Err f) more h on = h

pub onward_then : {A B : Type 0} (read : Spot → Result (A × Spot) ImageFault) (more : A × Spot → Result (B × Spot) ImageFault)
    → IsOnward read → ((x : A) → IsOnward (λ s. more (x, s))) → IsOnward (λ s. read s >>= more)
onward_then read more on then_on s = reaches_then s.at (read s) more (on s) then_on

-- what fails, fails with what comes after it
pub fails_then : {A B : Type 0} (e : ReadError) (r : Result (A × Spot) ImageFault) (more : A × Spot → Result (B × Spot) ImageFault)
    → Fails e r → ((x : A) → IsOnward (λ s. more (x, s))) → Fails e (r >>= more)
fails_then (errors.Memory at) r more h on = reaches_then (at + 1) r more h on
fails_then (errors.Fault f) r more h on = ap (λ k. k >>= more) h

module _ {A : Type 0} (step : A → Spot → Result (A × Spot) ImageFault) where
  pub times_onward : ((x : A) → IsOnward (step x)) → (n : ℕ) (x : A) → IsOnward (times step n x)
  unfolding times
  times_onward on zero x s = omega arith
  times_onward on (suc n) x s = reaches_then s.at (step x s) (λ y. times step n y.0 y.1) (on x s) (λ y t. times_onward on n y t)

  one_step : (count i : ℕ) (x : A) (s : Spot) → i < count → times step (count - i) x s ≡ (step x s >>= λ y. times step (count - (i + 1)) y.0 y.1)
  unfolding times
  one_step count i x s lt = let k : count - i ≡ suc (count - (i + 1)) = omega arith in rw k refl

  pub goes_on : (count i : ℕ) (x : A) (s : Spot) (y : A) (t : Spot) (total : Result (A × Spot) ImageFault) → i < count → step x s ≡ Ok (y, t) → times step (count - i) x s ≡ total → times step (count - (i + 1)) y t ≡ total
  goes_on count i x s y t total lt is so_far = sym (one_step count i x s lt ∙ ap (λ r. r >>= λ z. times step (count - (i + 1)) z.0 z.1) is) ∙ so_far

  pub ends : ((x : A) → IsOnward (step x)) → (e : ReadError) (count i : ℕ) (x : A) (s : Spot) (total : Result (A × Spot) ImageFault) → i < count → Fails e (step x s) → times step (count - i) x s ≡ total → Fails e total
  ends on e count i x s total lt fails so_far =
      subst (λ r. Fails e r) (sym (one_step count i x s lt) ∙ so_far) (fails_then e (step x s) (λ y. times step (count - (i + 1)) y.0 y.1) fails (λ y t. times_onward on (count - (i + 1)) y t))

  pub is_done : (count i : ℕ) (x : A) (s : Spot) (total : Result (A × Spot) ImageFault) → count ≤ i → times step (count - i) x s ≡ total → total ≡ Ok (x, s)
  unfolding times
  is_done count i x s total le so_far = let k : count - i ≡ 0 = omega arith in sym so_far ∙ rw k refl

  pub stops : ((x : A) → IsOnward (step x)) → (count i : ℕ) (x : A) (s : Spot) (total : Result (A × Spot) ImageFault) → times step (count - i) x s ≡ total → Reaches s.at total
  stops on count i x s total so_far = subst (λ r. Reaches s.at r) so_far (times_onward on (count - i) x s)

  -- a step that did not fail goes past its place
  pub goes_past : ((x : A) → IsOnward (step x)) → (count i : ℕ) (x : A) (s : Spot) (y : A) (t : Spot) (total : Result (A × Spot) ImageFault) → i < count → step x s ≡ Ok (y, t) → s.at < t.at → times step (count - i) x s ≡ total → Reaches (s.at + 1) total
  goes_past on count i x s y t total lt is further so_far =
      reaches_before (s.at + 1) t.at total (omega arith) (stops on count (i + 1) y t total (goes_on count i x s y t total lt is so_far))
