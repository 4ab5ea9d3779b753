-- No reader goes back.
use Rattle.std.proofs.Common.{ℕ, ◌≤◌, ◌==◌, ◌&&◌, List, [], ◌∷◌, ◌++◌, Result, Ok, Err, Bool, true, false, cond, length, take, nat_lt, nat_le, arith}
use Rattle.std.specs.Int.{Width, w8, w16, w32, byte_len, from_be_bytes}
use Rattle.std.proofs.Math.Utf8.{scalar}
use Rattle.ot_operation.specs.Operation.{Operation, empty, with_retain, with_insert, with_delete}
use Rattle.ot_isa.specs.declared.instruction.Instr.TheVariants as instr
use Rattle.ot_isa.specs.Program.{Program, with_instr}
use Rattle.ot_image.specs.declared.fault.ImageFault.{ImageFault}
use Rattle.ot_image.specs.declared.fault.Kind.{Kind}
use Rattle.ot_image.specs.declared.fault.Kind.TheVariants.{BadScalar, BadOpcode, BadClient, BadNumber, NotNormal, TooLong}
use Rattle.ot_image.specs.Reading.{Spot, ◌>>=◌, Reaches, cut, fault, past, number_at, tested, times, scalar_at, push_scalar, Edited, may_follow, code_at, base_with, target_with, length_at, filled_at, push_component, components_at, operation_at, opcode_at, client_at, plain_instr, named_at, instr_at, push_instr}
use Rattle.ot_image.proofs.Loop.{IsOnward, reaches_then, onward_then, times_onward}

pub either_onward : {A : Type 0} (at : ℕ) (b : Bool) (x y : Result (A × Spot) ImageFault) → Reaches at x → Reaches at y → Reaches at (cond b x y)
either_onward at true x y h k = h
either_onward at false x y h k = k

pub number_onward : (w : Width) → IsOnward (number_at w)
number_onward w s = either_onward s.at (nat_lt (length s.rest) (byte_len w)) (Err (cut s)) (Ok (from_be_bytes w (take (byte_len w) s.rest), past (byte_len w) s)) (omega arith) (omega arith)

-- a number that is refused or given, at its place
given_onward : (w : Width) (s : Spot) (choose : ℕ × Spot → Result (ℕ × Spot) ImageFault)
    → ((n : ℕ × Spot) → s.at ≤ n.1.at → Reaches s.at (choose n)) → Reaches s.at (number_at w s >>= choose)
given_onward w s choose ok = by (number_at w s) (number_onward w s)
  where
    by : (r : Result (ℕ × Spot) ImageFault) → Reaches s.at r → Reaches s.at (r >>= choose)
    by (Ok n) h = ok n h
    by (Err f) h = h

pub tested_onward : (w : Width) (test : ℕ → Bool) (kind : Kind) → IsOnward (tested w test kind)
tested_onward w test kind s = given_onward w s (λ n. cond (test n.0) (Ok n) (Err (fault s.at kind))) (λ n h. either_onward s.at (test n.0) (Ok n) (Err (fault s.at kind)) h (omega arith))

pub scalar_onward : IsOnward scalar_at
unfolding scalar_at
scalar_onward = tested_onward w32 scalar BadScalar

pub push_scalar_onward : (chars : List ℕ) → IsOnward (push_scalar chars)
unfolding push_scalar
push_scalar_onward chars = onward_then scalar_at (λ c. Ok (chars ++ c.0 ∷ [], c.1)) scalar_onward (λ c s. omega arith)

pub code_onward : (last : ℕ) → IsOnward (code_at last)
unfolding code_at
code_onward last s = given_onward w8 s _ (λ n h. either_onward s.at (nat_le 16 n.0 && nat_le n.0 18) (cond (may_follow last n.0) (Ok n) (Err (fault s.at NotNormal))) (Err (fault s.at BadOpcode)) (either_onward s.at (may_follow last n.0) (Ok n) (Err (fault s.at NotNormal)) h (omega arith)) (omega arith))

pub length_onward : (code : ℕ) (op : Operation ℕ) → IsOnward (length_at code op)
unfolding length_at
length_onward code op s = given_onward w32 s _ (λ n h. either_onward s.at (n.0 == 0) (Err (fault s.at BadNumber)) (cond (nat_le (base_with code op n.0) 1000000 && nat_le (target_with code op n.0) 1000000) (Ok n) (Err (fault s.at TooLong))) (omega arith) (either_onward s.at (nat_le (base_with code op n.0) 1000000 && nat_le (target_with code op n.0) 1000000) (Ok n) (Err (fault s.at TooLong)) h (omega arith)))

pub filled_onward : (code n : ℕ) (op : Operation ℕ) → IsOnward (filled_at code n op)
unfolding filled_at
filled_onward code n op s =
    either_onward s.at (code == 16) (Ok (record { last = 16; op = with_retain op n }, s)) (cond (code == 18) (Ok (record { last = 18; op = with_delete op n }, s)) text) (omega arith)
    (either_onward s.at (code == 18) (Ok (record { last = 18; op = with_delete op n }, s)) text (omega arith) read)
  where
    text : Result (Edited × Spot) ImageFault
    text = times push_scalar n [] s >>= λ text. Ok (record { last = 17; op = with_insert op text.0 }, text.1)

    read : Reaches s.at text
    read = reaches_then s.at (times push_scalar n [] s) (λ text. Ok (record { last = 17; op = with_insert op text.0 }, text.1)) (times_onward push_scalar push_scalar_onward n [] s) (λ x t. omega arith)

pub push_component_onward : (edited : Edited) → IsOnward (push_component edited)
unfolding push_component
push_component_onward edited =
    onward_then (code_at edited.last) (λ code. length_at code.0 edited.op code.1 >>= λ n. filled_at code.0 n.0 edited.op n.1) (code_onward edited.last)
    (λ code. onward_then (length_at code edited.op) (λ n. filled_at code n.0 edited.op n.1) (length_onward code edited.op) (λ n. filled_onward code n edited.op))

pub components_onward : (count : ℕ) → IsOnward (components_at count)
unfolding components_at
components_onward count = onward_then (times push_component count (record { last = 0; op = empty })) (λ edited. Ok (edited.0.op, edited.1)) (times_onward push_component push_component_onward count _) (λ edited s. omega arith)

pub operation_onward : IsOnward operation_at
unfolding operation_at
operation_onward = onward_then (number_at w32) (λ count. components_at count.0 count.1) (number_onward w32) components_onward

pub named_onward : (code client : ℕ) → IsOnward (named_at code client)
unfolding named_at
named_onward code client s =
    either_onward s.at (code == 1) (operation_at s >>= λ op. Ok (instr.Edit client op.0, op.1)) (Ok (plain_instr code client, s))
    (reaches_then s.at (operation_at s) (λ op. Ok (instr.Edit client op.0, op.1)) (operation_onward s) (λ op t. omega arith)) (omega arith)

pub instr_onward : (version clients : ℕ) → IsOnward (instr_at version clients)
unfolding instr_at opcode_at client_at
instr_onward version clients =
    onward_then (opcode_at version) (λ code. cond (code.0 == 6) (Ok (instr.ReadServer, code.1)) (client_at clients code.1 >>= λ client. named_at code.0 client.0 client.1)) (tested_onward w8 _ BadOpcode)
    (λ code s. either_onward s.at (code == 6) (Ok (instr.ReadServer, s)) (client_at clients s >>= λ client. named_at code client.0 client.1) (omega arith)
    (onward_then (client_at clients) (λ client. named_at code client.0 client.1) (tested_onward w16 _ BadClient) (λ client. named_onward code client) s))

pub push_instr_onward : (version : ℕ) (program : Program) → IsOnward (push_instr version program)
unfolding push_instr
push_instr_onward version program = onward_then (instr_at version program.clients) (λ i. Ok (with_instr program i.0, i.1)) (instr_onward version program.clients) (λ i s. omega arith)
