-- What a step of reading gives, from what it reads first.
use Rattle.std.proofs.Common.{◌≡◌, ℕ, zero, suc, ◌+◌, List, [], ◌∷◌, ◌++◌, Result, Ok, Err, refl, ap, length, length-append, arith}
use Rattle.ot_image.specs.declared.fault.ImageFault.{ImageFault}
use Rattle.ot_isa.specs.declared.instruction.Instr.{Instr}
use Rattle.ot_isa.specs.Program.{Program, with_instr}
use Rattle.ot_image.specs.declared.fault.ReadError.{ReadError}
use Rattle.ot_image.specs.Reading.{Spot, ◌>>=◌, Fails, times, scalar_at, push_scalar, instr_at, push_instr}
use Rattle.ot_image.proofs.Loop.{fails_then}

pub scalar_pushed : (chars : List ℕ) (s : Spot) (c : ℕ) (t : Spot) → scalar_at s ≡ Ok (c, t) → push_scalar chars s ≡ Ok (chars ++ c ∷ [], t)
unfolding push_scalar
scalar_pushed chars s c t e = rw e refl

pub scalar_refused : (chars : List ℕ) (s : Spot) (f : ImageFault) → scalar_at s ≡ Err f → push_scalar chars s ≡ Err f
unfolding push_scalar
scalar_refused chars s f e = rw e refl

-- the value of a step that did not fail
pub bind_ok : {A B : Type 0} (r : Result A ImageFault) (f : A → Result B ImageFault) (y : B) → (r >>= f) ≡ Ok y → (x : A) × (r ≡ Ok x) × (f x ≡ Ok y)
bind_ok (Ok x) f y e = (x, refl, e)
bind_ok (Err d) f y e = absurd cc

abbrev done : {A : Type 0} → A → Result A ImageFault
done x = Ok x

pub ok_is : {A : Type 0} (x y : A) → done x ≡ done y → x ≡ y
ok_is x y e = cc

-- so many characters are read
pub chars_length : (n : ℕ) (front : List ℕ) (s : Spot) (xs : List ℕ) (t : Spot) → times push_scalar n front s ≡ Ok (xs, t) → length xs ≡ length front + n
unfolding times push_scalar
chars_length zero front s xs t e = let same = ok_is (front, s) (xs, t) e in let items : front ≡ xs = ap (λ (p : List ℕ × Spot). p.0) same in rw (← items) (omega arith)
chars_length (suc n) front s xs t e =
    let a = bind_ok (push_scalar front s) (λ y. times push_scalar n y.0 y.1) (xs, t) e in
    let b = bind_ok (scalar_at s) (λ c. Ok (front ++ c.0 ∷ [], c.1)) a.0 a.1 in
    let same : front ++ b.0.0 ∷ [] ≡ a.0.0 = ap (λ (p : List ℕ × Spot). p.0) (ok_is (front ++ b.0.0 ∷ [], b.0.1) a.0 b.2) in
    let rest : length xs ≡ length a.0.0 + n = chars_length n a.0.0 a.0.1 xs t a.2 in
    let more : length a.0.0 ≡ length front + 1 = rw (← same) (length-append front (b.0.0 ∷ [])) in
    omega (arith, rest, more)

pub instr_pushed : (version : ℕ) (program : Program) (s : Spot) (i : Instr) (t : Spot) → instr_at version program.clients s ≡ Ok (i, t) → push_instr version program s ≡ Ok (with_instr program i, t)
unfolding push_instr
instr_pushed version program s i t e = rw e refl

pub instr_refused : (version : ℕ) (program : Program) (s : Spot) (e : ReadError) → Fails e (instr_at version program.clients s) → Fails e (push_instr version program s)
unfolding push_instr
instr_refused version program s e h = fails_then e (instr_at version program.clients s) (λ i. Ok (with_instr program i.0, i.1)) h (λ i t. omega arith)
