-- Which refusal a result is.
use Rattle.std.proofs.Common.{◌≡◌, ◌↔◌}
use Rattle.std.specs.Prelude.{Result, Ok, Err, IsErrAnd, IsErrOf, OnOk, IsOk}
use Rattle.ot_operation.specs.declared.refusal.OpRefusal.{OpRefusal}
use Rattle.ot_operation.specs.declared.refusal.OpRefusal.TheVariants.{TooLong, Memory}

-- an answer that memory ran out, where the other refusal's ground does not hold
pub memory_only : {T P : Type 0} (r : Result T OpRefusal) → IsErrAnd r (λ e. e ≡ Memory) → (P → ⊥) → IsErrOf r TooLong ↔ P
memory_only (Ok x) h fits = absurd h
memory_only (Err e) h fits = (λ k. absurd (cc (h, k)), λ p. absurd (fits p))

pub ok_only : {T P : Type 0} (x : T) → (P → ⊥) → IsErrOf {E = OpRefusal} (Ok x) TooLong ↔ P
ok_only x fits = (λ k. absurd (cc k), λ p. absurd (fits p))

pub OnOk-at_ok : {T E P : Type 0} (r : Result T E) → IsOk r → OnOk r P → P
OnOk-at_ok (Ok x) h p = p
OnOk-at_ok (Err e) h p = absurd (cc h)
