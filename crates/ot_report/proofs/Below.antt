-- Searches from 0 on: what is found, and what is not.
use Rattle.std.proofs.Common.{◌≡◌, ℕ, zero, suc, ◌+◌, ◌<◌, refl, ap, ◌∙◌, arith, add-one, Bool, true, false, inl, inr}
use Rattle.std.specs.Prelude.{Option, Some, None}
use Rattle.std.specs.Option.{option_or}
use Rattle.std.proofs.lemmas.Bool.{cases_lt}
use Rattle.ot_report.specs.Searches.{first_below, number_if}

left_none : {A : Type 0} (o other : Option A) → option_or o other ≡ None → o ≡ None
left_none None other h = refl
left_none (Some x) other h = absurd (cc)

right_none : {A : Type 0} (o other : Option A) → option_or o other ≡ None → other ≡ None
right_none None other h = h
right_none (Some x) other h = absurd (cc)

-- one number further, with no answer
pub first-none : {A : Type 0} (f : ℕ → Option A) (d : ℕ) → first_below d f ≡ None → f d ≡ None → first_below (d + 1) f ≡ None
first-none f d before here = ap (λ n. first_below n f) (add-one d) ∙ ap (λ o. option_or o (f d)) before ∙ here

-- the first answer
pub first-found : {A : Type 0} (f : ℕ → Option A) (n d : ℕ) (x : A) → d < n → first_below d f ≡ None → f d ≡ Some x → first_below n f ≡ Some x
first-found f zero d x lt before here = absurd (omega arith)
first-found f (suc n) d x lt before here =
    elim (cases_lt d n) [
      | inl less ↦ ap (λ o. option_or o (f n)) (first-found f n d x less before here)
      | inr more ↦
          let same : n ≡ d = omega arith in
          ap (λ k. option_or (first_below k f) (f k)) same ∙ ap (λ o. option_or o (f d)) before ∙ here
    ]

-- no answer, at each number and in all
pub none-at : {A : Type 0} (f : ℕ → Option A) (n k : ℕ) → k < n → first_below n f ≡ None → f k ≡ None
none-at f zero k lt none = absurd (omega arith)
none-at f (suc n) k lt none =
    elim (cases_lt k n) [
      | inl less ↦ none-at f n k less (left_none (first_below n f) (f n) none)
      | inr more ↦
          let same : k ≡ n = omega arith in
          ap f same ∙ right_none (first_below n f) (f n) none
    ]

pub all-none : {A : Type 0} (f : ℕ → Option A) (n : ℕ) → ((k : ℕ) → k < n → f k ≡ None) → first_below n f ≡ None
all-none f zero each = refl
all-none f (suc n) each = ap (λ o. option_or o (f n)) (all-none f n (λ k lt. each k (omega arith))) ∙ each n (omega arith)

-- a number that passes, or does not
pub number-no : (b : Bool) (n : ℕ) → b ≡ false → number_if b n ≡ None
number-no b n fails = ap (λ c. number_if c n) fails

pub number-yes : (b : Bool) (n : ℕ) → b ≡ true → number_if b n ≡ Some n
number-yes b n passes = ap (λ c. number_if c n) passes

pub no-number : (b : Bool) (n : ℕ) → number_if b n ≡ None → b ≡ false
no-number true n none = absurd (cc)
no-number false n none = refl
