-- Lemmas on lists that speak of no operation.
use Rattle.std.proofs.Common.{◌≡◌, ℕ, zero, suc, ◌+◌, ◌<◌, ◌≤◌, drop, List, [], ◌∷◌, ◌++◌, length, Option, Some, None, refl, ap, arith}
use Rattle.std.specs.Option.{option_and_then}
use Rattle.std.specs.List.{filter_map, slice_get, cons_option}

-- h gives a value of each element
abbrev pub GivesEach : {X Y : Type 0} → (X → Option Y) → List X → Type 0
GivesEach h [] = Unit {0}
GivesEach {X} {Y} h (x ∷ xs) = ((y : Y) × (h x ≡ Some y)) × GivesEach h xs

pub slice_get_below : {X : Type 0} (xs : List X) (i : ℕ) → i < length xs → (x : X) × (slice_get xs i ≡ Some x)
slice_get_below [] i h = absurd (omega (arith, h))
slice_get_below (x ∷ xs) zero h = (x, refl)
slice_get_below (x ∷ xs) (suc i) h = slice_get_below xs i (omega arith)

pub length-filter_map : {X Y : Type 0} (h : X → Option Y) (xs : List X) → GivesEach h xs → length (filter_map h xs) ≡ length xs
length-filter_map h [] given = refl
length-filter_map h (x ∷ xs) given = rw given.0.1 (ap suc (length-filter_map h xs given.1))

pub slice_get-filter_map :
    {X Y : Type 0} (h : X → Option Y) (xs : List X) → GivesEach h xs → (i : ℕ)
    → slice_get (filter_map h xs) i ≡ option_and_then h (slice_get xs i)
slice_get-filter_map h [] given i = refl
slice_get-filter_map h (x ∷ xs) given zero = rw given.0.1 refl
slice_get-filter_map h (x ∷ xs) given (suc i) = rw given.0.1 (slice_get-filter_map h xs given.1 i)

pub filter_map-cons_option :
    {X Y : Type 0} (h : X → Option Y) (o : Option X) (xs : List X)
    → filter_map h (cons_option o xs) ≡ cons_option (option_and_then h o) (filter_map h xs)
filter_map-cons_option h None xs = refl
filter_map-cons_option h (Some x) xs = refl

-- P holds of each element, by recursion
abbrev pub Each : {X : Type 0} → (X → Type 0) → List X → Type 0
Each P [] = Unit {0}
Each P (x ∷ xs) = P x × Each P xs

pub Each-append : {X : Type 0} (P : X → Type 0) (xs ys : List X) → Each P xs → Each P ys → Each P (xs ++ ys)
Each-append P [] ys each_xs each_ys = each_ys
Each-append P (x ∷ xs) ys each_xs each_ys = (each_xs.0, Each-append P xs ys each_xs.1 each_ys)

-- `part` is `whole` from `place` on
abbrev pub StandsAt : {X : Type 0} → List X → ℕ → List X → Type 0
StandsAt whole place part = (j k : ℕ) → j ≡ place + k → slice_get whole j ≡ slice_get part k

pub StandsAt-tail :
    {X : Type 0} (whole : List X) (place : ℕ) (x : X) (part : List X)
    → StandsAt whole place (x ∷ part) → StandsAt whole (suc place) part
StandsAt-tail whole place x part stands = λ j k e. stands j (suc k) (omega (arith, e))

pub StandsAt-whole : {X : Type 0} (whole : List X) → StandsAt whole 0 whole
StandsAt-whole whole = λ j k e. ap (slice_get whole) (let here : j ≡ k = omega (arith, e) in here)

pub past_end : {T : Type 0} (cs : List T) (k : ℕ) → length cs ≤ k → drop k cs ≡ []
past_end [] zero h = refl
past_end [] (suc k) h = refl
past_end (c ∷ cs) zero h = absurd (omega arith)
past_end (c ∷ cs) (suc k) h = past_end cs k (omega arith)
