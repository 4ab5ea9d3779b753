-- What the readers of components need.
use Rattle.std.proofs.Common.{◌≡◌, ℕ, ◌+◌, ◌≤◌, List, [], length, Ok, refl, arith, inl, inr}
use Rattle.std.specs.Prelude.{◌⊎◌}
use Rattle.ot_operation.specs.Operation.{Operation, IsTooLong, empty, with_retain, with_insert}
use Rattle.ot_operation.proofs.RunLemmas.{longest_retain, longest_insert}
use Rattle.ot_image.specs.declared.fault.ReadError.{ReadError}
use Rattle.std.specs.Int.{w32}
use Rattle.ot_image.specs.declared.fault.Kind.TheVariants.{TooMany}
use Rattle.ot_image.specs.Reading.{Spot, ◌>>=◌, Edited, Fails, times, push_scalar, push_component, components_at, push_instr, instr_count_at, head_at, program_at}
use Rattle.ot_image.proofs.Loop.{IsOnward, fails_then, onward_then, times_onward}
use Rattle.ot_image.proofs.Onward.{tested_onward, push_instr_onward}
use Rattle.ot_image.proofs.Fields.{chars_length}

pub components_fail : (e : ReadError) (count : ℕ) (s : Spot) → Fails e (times push_component count (record { last = 0; op = empty }) s) → Fails e (components_at count s)
unfolding components_at
components_fail e count s h = fails_then e (times push_component count (record { last = 0; op = empty }) s) (λ edited. Ok (edited.0.op, edited.1)) h (λ edited t. omega arith)

pub components_end : (count : ℕ) (s : Spot) (edited : Edited) (t : Spot) → times push_component count (record { last = 0; op = empty }) s ≡ Ok (edited, t) → components_at count s ≡ Ok (edited.op, t)
unfolding components_at
components_end count s edited t h = rw h refl

-- a component that fits
pub retain_fits : (op : Operation ℕ) (code n : ℕ) → code ≡ 16 → (code ≡ 17) ⊎ (op.base + n ≤ 1000000) → (code ≡ 18) ⊎ (length op.image + n ≤ 1000000) → IsTooLong (with_retain op n) → ⊥
retain_fits op code n is (inl k) t long = omega (arith, is, k)
retain_fits op code n is (inr b) (inl k) long = omega (arith, is, k)
retain_fits op code n is (inr b) (inr t) long = let l = rw (longest_retain op n) at long in omega (arith, l, b, t)

pub insert_fits : (op : Operation ℕ) (code n : ℕ) (s t : Spot) (text : List ℕ) → (code ≡ 18 → ⊥) → op.base ≤ 1000000 → (code ≡ 18) ⊎ (length op.image + n ≤ 1000000)
    → times push_scalar n [] s ≡ Ok (text, t) → IsTooLong (with_insert op text) → ⊥
insert_fits op code n s t text other b (inl k) read long = other k
insert_fits op code n s t text other b (inr fits) read long =
    let l = rw (longest_insert op text) at long in
    let size : length text ≡ n = omega (arith, chars_length n [] s text t read) in
    omega (arith, l, b, fits, size)

instr_count_onward : IsOnward instr_count_at
unfolding instr_count_at
instr_count_onward = tested_onward w32 _ TooMany

pub program_fail : (e : ReadError) (s : Spot) → Fails e (head_at s) → Fails e (program_at s)
unfolding program_at
program_fail e s h =
    fails_then e (head_at s) (λ head. instr_count_at head.1 >>= λ count. times (push_instr head.0.0) count.0 head.0.1 count.1) h
    (λ head. onward_then instr_count_at (λ count. times (push_instr head.0) count.0 head.1 count.1) instr_count_onward (λ count. times_onward (push_instr head.0) (push_instr_onward head.0) count head.1))
