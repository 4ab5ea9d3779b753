-- Reading an image from left to right, with the first fault and its place.
use Rattle.std.specs.Prelude.{◌≡◌, ◌<◌, ◌≤◌, ◌+◌, ℕ, zero, suc, List, [], ◌∷◌, ◌++◌, length, take, drop, Result, Ok, Err, IfErr, nat_lt, nat_le, ◌==◌, ◌&&◌, not, Bool, if◌then◌else◌}
use Rattle.std.specs.Int.{Width, w8, w16, w32, byte_len, from_be_bytes}
use Rattle.std.specs.Str.{bytes_eq}
use Rattle.std.proofs.Math.Utf8.{scalar}
use Rattle.ot_operation.specs.Operation.{Operation, empty, with_retain, with_insert, with_delete}
use Rattle.ot_isa.specs.declared.instruction.Instr.{Instr}
use Rattle.ot_isa.specs.declared.instruction.Instr.TheVariants as instr
use Rattle.ot_isa.specs.Program.{Program, opening, with_instr}
use Rattle.ot_image.specs.declared.fault.ImageFault.{ImageFault}
use Rattle.ot_image.specs.declared.fault.Kind.{Kind}
use Rattle.ot_image.specs.declared.fault.Kind.TheVariants.{Cut, BadMagic, BadNumber, TooLong, TooMany, BadScalar, BadOpcode, BadClient, NotNormal, Trailing, Memory}
use Rattle.ot_image.specs.declared.fault.ReadError.{ReadError}
use Rattle.ot_image.specs.declared.fault.ReadError.TheVariants as errors
use Rattle.ot_isa.specs.declared.builder.TheConstants.{CLIENT_LIMIT, INSTR_LIMIT, START_LIMIT}
use Rattle.ot_operation.specs.declared.TheConstants.{LIMIT}

-- a place, and the bytes from there on
pub record Spot : Type 0 where
  pub at : ℕ
  pub rest : List ℕ

abbrev pub fault : ℕ → Kind → ImageFault
fault at kind = record { at = at; kind = kind }

infixl 10 ◌>>=◌
abbrev pub ◌>>=◌ : {A B : Type 0} → Result A ImageFault → (A → Result B ImageFault) → Result B ImageFault
(Ok x) >>= f = f x
(Err e) >>= f = Err e

-- What a function that takes no memory returned, seen by view, is what reading gives.
abbrev pub IsRead : {X Y : Type 0} → (X → Y) → Result X ImageFault → Result Y ImageFault → Type 0
IsRead view (Ok x) read = read ≡ Ok (view x)
IsRead view (Err f) read = read ≡ Err f

-- reading gets as far as this place with no fault before it
abbrev pub Reaches : {A : Type 0} → ℕ → Result (A × Spot) ImageFault → Type 0
Reaches at (Ok x) = at ≤ x.1.at
Reaches at (Err f) = at ≤ f.at

-- reading fails so, or gets past the field at which memory ran out
abbrev pub Fails : {A : Type 0} → ReadError → Result (A × Spot) ImageFault → Type 0
Fails (errors.Memory at) read = Reaches (at + 1) read
Fails (errors.Fault f) read = read ≡ Err f

-- The same as IsRead of a function that takes memory.
abbrev pub Gives : {X A : Type 0} → (X → A × Spot) → Result X ReadError → Result (A × Spot) ImageFault → Type 0
Gives view (Ok x) read = read ≡ Ok (view x)
Gives view (Err e) read = Fails e read

-- The same of a whole image.
abbrev pub Loads : {X Y : Type 0} → (X → Y) → Result X ReadError → Result Y ImageFault → Type 0
Loads view (Ok x) read = read ≡ Ok (view x)
Loads view (Err (errors.Memory at)) read = IfErr read (λ f. at < f.at)
Loads view (Err (errors.Fault f)) read = read ≡ Err f

abbrev pub past : ℕ → Spot → Spot
past n s = record { at = s.at + n; rest = drop n s.rest }

-- a field that is not whole: the number of bytes given
abbrev pub cut : Spot → ImageFault
cut s = fault (s.at + length s.rest) Cut

abbrev pub number_at : Width → Spot → Result (ℕ × Spot) ImageFault
number_at w s = if nat_lt (length s.rest) (byte_len w) then Err (cut s) else Ok (from_be_bytes w (take (byte_len w) s.rest), past (byte_len w) s)

-- a number that passes a test, or a fault at its place
abbrev pub tested : Width → (ℕ → Bool) → Kind → Spot → Result (ℕ × Spot) ImageFault
tested w test kind s = number_at w s >>= λ n. if test n.0 then Ok n else Err (fault s.at kind)

-- a step of reading, so many times
unfoldable pub times : {A : Type 0} → (A → Spot → Result (A × Spot) ImageFault) → ℕ → A → Spot → Result (A × Spot) ImageFault
times step zero x s = Ok (x, s)
times step (suc n) x s = step x s >>= λ y. times step n y.0 y.1

-- ---- the head

-- OTS1
abbrev pub magic1 : List ℕ
magic1 = 79 ∷ 84 ∷ 83 ∷ 49 ∷ []

-- OTS2
abbrev pub magic2 : List ℕ
magic2 = 79 ∷ 84 ∷ 83 ∷ 50 ∷ []

-- which version it is, 1 or 2; the first three bytes of the two are one
unfoldable pub version_at : Spot → Result (ℕ × Spot) ImageFault
version_at s =
    if nat_lt (length s.rest) 4 then (if bytes_eq s.rest (take (length s.rest) magic1) then Err (cut s) else Err (fault s.at BadMagic)) else
    (if bytes_eq (take 4 s.rest) magic1 then Ok (1, past 4 s) else
    (if bytes_eq (take 4 s.rest) magic2 then Ok (2, past 4 s) else Err (fault s.at BadMagic)))

unfoldable pub clients_at : Spot → Result (ℕ × Spot) ImageFault
clients_at = tested w16 (λ n. nat_le 1 n && nat_le n CLIENT_LIMIT) BadNumber

-- version 1 does not have this field: all are present
unfoldable pub present_at : ℕ → ℕ → Spot → Result (ℕ × Spot) ImageFault
present_at version clients s = if version == 1 then Ok (clients, s) else tested w16 (λ n. nat_le n clients) BadNumber s

unfoldable pub start_count_at : Spot → Result (ℕ × Spot) ImageFault
start_count_at = tested w32 (λ n. nat_le n START_LIMIT) TooLong

unfoldable pub scalar_at : Spot → Result (ℕ × Spot) ImageFault
scalar_at = tested w32 scalar BadScalar

-- one more character
unfoldable pub push_scalar : List ℕ → Spot → Result (List ℕ × Spot) ImageFault
push_scalar chars s = scalar_at s >>= λ c. Ok (chars ++ c.0 ∷ [], c.1)

-- ---- components

-- the operation that was read so far, and the last component's byte, or 0
pub record Edited : Type 0 where
  pub last : ℕ
  pub op : Operation ℕ

-- no two components of one kind, and no insertion after a deletion
abbrev pub may_follow : ℕ → ℕ → Bool
may_follow last code = not (code == last) && not (last == 18 && code == 17)

unfoldable pub code_at : ℕ → Spot → Result (ℕ × Spot) ImageFault
code_at last s = number_at w8 s >>= λ n.
    if nat_le 16 n.0 && nat_le n.0 18 then (if may_follow last n.0 then Ok n else Err (fault s.at NotNormal)) else Err (fault s.at BadOpcode)

-- the base and the target of an operation with so long a component more
abbrev pub base_with : ℕ → Operation ℕ → ℕ → ℕ
base_with code op n = if code == 17 then op.base else op.base + n

abbrev pub target_with : ℕ → Operation ℕ → ℕ → ℕ
target_with code op n = if code == 18 then length op.image else length op.image + n

unfoldable pub length_at : ℕ → Operation ℕ → Spot → Result (ℕ × Spot) ImageFault
length_at code op s = number_at w32 s >>= λ n.
    if n.0 == 0 then Err (fault s.at BadNumber) else
    (if nat_le (base_with code op n.0) LIMIT && nat_le (target_with code op n.0) LIMIT then Ok n else Err (fault s.at TooLong))

unfoldable pub filled_at : ℕ → ℕ → Operation ℕ → Spot → Result (Edited × Spot) ImageFault
filled_at code n op s =
    if code == 16 then Ok (record { last = 16; op = with_retain op n }, s) else
    (if code == 18 then Ok (record { last = 18; op = with_delete op n }, s) else
    (times push_scalar n [] s >>= λ text. Ok (record { last = 17; op = with_insert op text.0 }, text.1)))

-- one more component
unfoldable pub push_component : Edited → Spot → Result (Edited × Spot) ImageFault
push_component edited s = do
  code ← code_at edited.last s
  n ← length_at code.0 edited.op code.1
  filled_at code.0 n.0 edited.op n.1

unfoldable pub components_at : ℕ → Spot → Result (Operation ℕ × Spot) ImageFault
components_at count s = times push_component count (record { last = 0; op = empty }) s >>= λ edited. Ok (edited.0.op, edited.1)

unfoldable pub operation_at : Spot → Result (Operation ℕ × Spot) ImageFault
operation_at s = number_at w32 s >>= λ count. components_at count.0 count.1

-- ---- instructions

unfoldable pub opcode_at : ℕ → Spot → Result (ℕ × Spot) ImageFault
opcode_at version = tested w8 (λ n. nat_le 1 n && nat_le n (5 + version)) BadOpcode

unfoldable pub client_at : ℕ → Spot → Result (ℕ × Spot) ImageFault
client_at clients = tested w16 (λ n. nat_lt n clients) BadClient

-- an instruction that names a client and nothing else
abbrev pub plain_instr : ℕ → ℕ → Instr
plain_instr code client =
    if code == 2 then instr.Take client else
    (if code == 3 then instr.Deliver client else
    (if code == 4 then instr.Acknowledge client else
    (if code == 5 then instr.Read client else instr.Join client)))

-- what follows the byte of an instruction that names a client
unfoldable pub named_at : ℕ → ℕ → Spot → Result (Instr × Spot) ImageFault
named_at code client s = if code == 1 then (operation_at s >>= λ op. Ok (instr.Edit client op.0, op.1)) else Ok (plain_instr code client, s)

unfoldable pub instr_at : ℕ → ℕ → Spot → Result (Instr × Spot) ImageFault
instr_at version clients s = do
  code ← opcode_at version s
  if code.0 == 6 then Ok (instr.ReadServer, code.1) else (client_at clients code.1 >>= λ client. named_at code.0 client.0 client.1)

-- one more instruction
unfoldable pub push_instr : ℕ → Program → Spot → Result (Program × Spot) ImageFault
push_instr version program s = instr_at version program.clients s >>= λ i. Ok (with_instr program i.0, i.1)

unfoldable pub instr_count_at : Spot → Result (ℕ × Spot) ImageFault
instr_count_at = tested w32 (λ n. nat_le n INSTR_LIMIT) TooMany

-- ---- all of it

unfoldable pub head_at : Spot → Result ((ℕ × Program) × Spot) ImageFault
head_at s = do
  version ← version_at s
  clients ← clients_at version.1
  present ← present_at version.0 clients.0 clients.1
  count ← start_count_at present.1
  start ← times push_scalar count.0 [] count.1
  Ok ((version.0, opening clients.0 present.0 start.0), start.1)

unfoldable pub program_at : Spot → Result (Program × Spot) ImageFault
program_at s = do
  head ← head_at s
  count ← instr_count_at head.1
  times (push_instr head.0.0) count.0 head.0.1 count.1

unfoldable pub image_at : Spot → Result Program ImageFault
image_at s = program_at s >>= λ p. if length p.1.rest == 0 then Ok p.0 else Err (fault p.1.at Trailing)

abbrev pub image_of : List ℕ → Result Program ImageFault
image_of bytes = image_at (record { at = 0; rest = bytes })

-- memory ran out at a field; neither it nor one before it is at fault
abbrev pub IsWant : List ℕ → ImageFault → Type 0
IsWant bytes want = (want.kind ≡ Memory) × IfErr (image_of bytes) (λ f. want.at < f.at)
