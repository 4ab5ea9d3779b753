-- The lengths of an operation with a component added.
use Rattle.std.proofs.Common.{◌≡◌, ◌+◌, ◌<◌, ◌≤◌, ℕ, length, length-append, IsTrue, true, false, max, ap, ◌∙◌, arith, Result, Ok, Err, Some, refl}
use Rattle.std.proofs.lemmas.List.{length-map}
use Rattle.std.proofs.lemmas.Bool.{le-ltb}
use Rattle.ot_operation.specs.Operation.{Operation, New, olds, IsTooLong}
use Rattle.ot_operation.specs.Run.{Run, Keep, Add, Skip}
use Rattle.ot_operation.proofs.RunLemmas.{length-olds}
use Rattle.ot_json.specs.Reading.{with_run, with_component, is_too_long}
use Rattle.ot_json.specs.Parts.{HasLengths}
use Rattle.std.specs.Prelude.{OnOk, IsErrOf}
use Rattle.ot_operation.specs.declared.refusal.OpRefusal.{OpRefusal}
use Rattle.ot_json.specs.declared.fault.OpFault.TheVariants.{TooLong}

-- how many places a component takes
abbrev pub taken : Run ℕ → ℕ
taken (Keep n) = n
taken (Add s) = 0
taken (Skip n) = n

-- how many items a component gives
abbrev pub given : Run ℕ → ℕ
given (Keep n) = n
given (Add s) = length s
given (Skip n) = 0

pub image_length : (op : Operation ℕ) (r : Run ℕ) → length (with_run op r).image ≡ length op.image + given r
image_length op (Keep n) = length-append op.image (olds op.base n) ∙ ap (λ k. length op.image + k) (length-olds ℕ op.base n)
image_length op (Add s) = length-append op.image _ ∙ ap (λ k. length op.image + k) (length-map s New)
image_length op (Skip n) = omega arith

pub new_base : (op : Operation ℕ) (r : Run ℕ) → (with_run op r).base ≡ op.base + taken r
new_base op (Keep n) = refl
new_base op (Add s) = omega arith
new_base op (Skip n) = refl

pub has_lengths : (op : Operation ℕ) (l : ℕ × ℕ) (r : Run ℕ) → HasLengths op l → HasLengths (with_run op r) (l.0 + taken r, l.1 + given r)
has_lengths op l r h = (omega (arith, new_base op r, h), omega (arith, image_length op r, h))

pub refused : (op : Operation ℕ) (l : ℕ × ℕ) (r : Run ℕ) → HasLengths op l → 1000000 < max (l.0 + taken r) (l.1 + given r) → (IsTrue false → IsTooLong (with_run op r) → ⊥) × ((IsTooLong (with_run op r) → ⊥) → IsTrue false)
refused op l r h long =
    let is : IsTooLong (with_run op r) = omega (arith, new_base op r, image_length op r, h, long) in
    (λ k. absurd (cc k), λ p. absurd (p is))

pub allowed : (op : Operation ℕ) (l : ℕ × ℕ) (r : Run ℕ) → HasLengths op l → max (l.0 + taken r) (l.1 + given r) ≤ 1000000 → (IsTrue true → IsTooLong (with_run op r) → ⊥) × ((IsTooLong (with_run op r) → ⊥) → IsTrue true)
allowed op l r h short =
    (λ k is. omega (arith, new_base op r, image_length op r, h, short, is), λ p. refl)

pub is_short : (i : ℕ) (op : Operation ℕ) (r : Run ℕ) → (IsTooLong (with_run op r) → ⊥) → with_component i op (Some r) ≡ Ok (with_run op r)
is_short i op r h = let e : is_too_long (with_run op r) ≡ false = le-ltb 1000000 (max (with_run op r).base (length (with_run op r).image)) (omega arith) in rw e refl

-- a success is no refusal
pub not_long : {T P : Type 0} (r : Result T OpRefusal) → (P → IsErrOf r OpRefusal.TooLong) → OnOk r (P → ⊥)
not_long (Ok x) h = λ p. absurd (cc (h p))
not_long (Err e) h = tt
