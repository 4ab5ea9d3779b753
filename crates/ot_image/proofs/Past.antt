-- A reader that did not fail went past its place.
use Rattle.std.proofs.Common.{◌≡◌, ◌<◌, ◌+◌, ◌==◌, ℕ, Bool, true, false, Result, Ok, Err, cond, length, take, nat_lt, ap, arith}
use Rattle.std.specs.Int.{w8, w16, from_be_bytes}
use Rattle.ot_isa.specs.declared.instruction.Instr.{Instr}
use Rattle.ot_isa.specs.declared.instruction.Instr.TheVariants as instr
use Rattle.ot_image.specs.declared.fault.ImageFault.{ImageFault}
use Rattle.ot_image.specs.declared.fault.Kind.TheVariants.{BadOpcode, BadClient}
use Rattle.ot_image.specs.Reading.{Spot, ◌>>=◌, Reaches, cut, fault, past, number_at, opcode_at, client_at, named_at, instr_at}
use Rattle.ot_image.proofs.Loop.{onward_then}
use Rattle.ot_image.proofs.Onward.{either_onward, tested_onward, named_onward}
use Rattle.ot_image.proofs.Fields.{bind_ok, ok_is}

-- a choice that did not fail
unless_ok : {A : Type 0} (b : Bool) (f : ImageFault) (x y : A) → cond {A = Result A ImageFault} b (Err f) (Ok x) ≡ Ok y → x ≡ y
unless_ok true f x y e = absurd cc
unless_ok false f x y e = ok_is x y e

when_ok : {A : Type 0} (b : Bool) (f : ImageFault) (x y : A) → cond {A = Result A ImageFault} b (Ok x) (Err f) ≡ Ok y → x ≡ y
when_ok true f x y e = ok_is x y e
when_ok false f x y e = absurd cc

byte_past : (s : Spot) (n : ℕ × Spot) → number_at w8 s ≡ Ok n → s.at < n.1.at
byte_past s n e =
    let same = unless_ok (nat_lt (length s.rest) 1) (cut s) (from_be_bytes w8 (take 1 s.rest), past 1 s) n e in
    let place : s.at + 1 ≡ n.1.at = ap (λ (m : ℕ × Spot). m.1.at) same in
    omega (arith, place)

opcode_past : (version : ℕ) (s : Spot) (n : ℕ × Spot) → opcode_at version s ≡ Ok n → s.at < n.1.at
unfolding opcode_at
opcode_past version s n e =
    let a = bind_ok (number_at w8 s) _ n e in
    let same = when_ok _ (fault s.at BadOpcode) a.0 n a.2 in
    rw same at (byte_past s a.0 a.1)

-- what follows an instruction's byte
rest_of : ℕ → ℕ × Spot → Result (Instr × Spot) ImageFault
rest_of clients code = cond (code.0 == 6) (Ok (instr.ReadServer, code.1)) (client_at clients code.1 >>= λ client. named_at code.0 client.0 client.1)

rest_onward : (clients : ℕ) (code : ℕ × Spot) → Reaches code.1.at (rest_of clients code)
unfolding rest_of client_at
rest_onward clients code =
    either_onward code.1.at (code.0 == 6) (Ok (instr.ReadServer, code.1)) (client_at clients code.1 >>= λ client. named_at code.0 client.0 client.1) (omega arith)
    (onward_then (client_at clients) (λ client. named_at code.0 client.0 client.1) (tested_onward w16 _ BadClient) (λ client. named_onward code.0 client) code.1)

pub instr_past : (version clients : ℕ) (s : Spot) (i : Instr) (t : Spot) → instr_at version clients s ≡ Ok (i, t) → s.at < t.at
unfolding instr_at rest_of
instr_past version clients s i t e =
    let a = bind_ok (opcode_at version s) (rest_of clients) (i, t) e in
    let on = rw a.2 at (rest_onward clients a.0) in
    omega (arith, opcode_past version s a.0 a.1, on)
