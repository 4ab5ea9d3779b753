-- Instructions: what is read is spelled so, and what is spelled so is read.
use Rattle.std.proofs.Common.{◌≡◌, ℕ, ◌+◌, ◌^◌, ◌<◌, ◌≤◌, ◌==◌, ◌&&◌, nat_le, nat_lt, Bool, true, false, cond, List, [], ◌∷◌, ◌++◌, Result, Ok, refl, sym, subst, ◌∙◌, arith}
use Rattle.std.proofs.lemmas.Bool.{eqb-true, eqb-false, le-leb, lt-ltb}
use Rattle.std.proofs.lemmas.List.{append-nil}
use Rattle.std.specs.Int.{w8, w16, to_be_bytes}
use Rattle.ot_operation.specs.Operation.{Operation}
use Rattle.ot_isa.specs.declared.instruction.Instr.{Instr}
use Rattle.ot_isa.specs.declared.instruction.Instr.TheVariants as instr
use Rattle.ot_isa.specs.Program.{IsForClients}
use Rattle.ot_image.specs.declared.fault.ImageFault.{ImageFault}
use Rattle.ot_image.specs.declared.fault.Kind.TheVariants.{BadOpcode, BadClient}
use Rattle.ot_image.specs.Reading.{Spot, ◌>>=◌, tested, operation_at, opcode_at, client_at, plain_instr, named_at, instr_at}
use Rattle.ot_operation.specs.Run.{normal_runs}
use Rattle.ot_image.specs.Spelling.{components, opcode, operands, instruction}
use Rattle.ot_image.proofs.Premises.{IsSpelled, IsSpelledInstr}
use Rattle.ot_image.proofs.Fields.{bind_ok, ok_is}
use Rattle.ot_image.proofs.Spelled.{IsBytes, Takes, Takes-nothing, Takes-then, Spells, Spells-nothing, Spells-then, Spells-map, wide8, wide16, byte_is, tested_takes, tested_spells}
use Rattle.ot_image.proofs.Operations.{operation_takes, operation_spells}

abbrev pub half : ℕ → List ℕ
half = to_be_bytes w16

-- an instruction that stands in an image of this version
pub record IsRight (version clients : ℕ) (i : Instr) : Type 0 where
  pub client : IsForClients clients i
  pub known : opcode i ≤ 5 + version
  pub spelled : IsSpelledInstr i

-- ---- what is read

record IsPlain (code client : ℕ) (i : Instr) : Type 0 where
  opcode_is : opcode i ≡ code
  operands_are : operands i ≡ half client

plain_is : (code client : ℕ) → 2 ≤ code → code ≤ 7 → (code ≡ 6 → ⊥) → IsPlain code client (plain_instr code client)
plain_is code client from to other = by (code == 2) (code == 3) (code == 4) (code == 5) refl refl refl refl
  where
    by : (a b c d : Bool) → a ≡ (code == 2) → b ≡ (code == 3) → c ≡ (code == 4) → d ≡ (code == 5)
        → IsPlain code client (cond a (instr.Take client) (cond b (instr.Deliver client) (cond c (instr.Acknowledge client) (cond d (instr.Read client) (instr.Join client)))))
    by true b c d p q r s = record { opcode_is = sym (eqb-true code 2 (sym p)); operands_are = refl }
    by false true c d p q r s = record { opcode_is = sym (eqb-true code 3 (sym q)); operands_are = refl }
    by false false true d p q r s = record { opcode_is = sym (eqb-true code 4 (sym r)); operands_are = refl }
    by false false false true p q r s = record { opcode_is = sym (eqb-true code 5 (sym s)); operands_are = refl }
    by false false false false p q r s =
        let n2 = eqb-false code 2 (sym p) in
        let n3 = eqb-false code 3 (sym q) in
        let n4 = eqb-false code 4 (sym r) in
        let n5 = eqb-false code 5 (sym s) in
        record { opcode_is = omega (arith, n2, n3, n4, n5, other, from, to); operands_are = refl }

-- what follows the byte
record IsNamed (code client : ℕ) (s : Spot) (i : Instr) (t : Spot) : Type 0 where
  opcode_is : opcode i ≡ code
  takes : (others : List ℕ) × (operands i ≡ half client ++ others) × Takes s others t

named_takes : (code client : ℕ) (s : Spot) (i : Instr) (t : Spot) → IsBytes s.rest → 1 ≤ code → code ≤ 7 → (code ≡ 6 → ⊥) → named_at code client s ≡ Ok (i, t) → IsNamed code client s i t
unfolding named_at
named_takes code client s i t fits from to other e = by (code == 1) refl e
  where
    by : (a : Bool) → a ≡ (code == 1) → cond {A = Result (Instr × Spot) ImageFault} a (operation_at s >>= λ op. Ok (instr.Edit client op.0, op.1)) (Ok (plain_instr code client, s)) ≡ Ok (i, t) → IsNamed code client s i t
    by true p e =
        let a = bind_ok (operation_at s) (λ op. Ok (instr.Edit client op.0, op.1)) (i, t) e in
        let k = operation_takes s a.0.0 a.0.1 fits a.1 in
        let made : IsNamed code client s (instr.Edit client a.0.0) a.0.1 = record { opcode_is = sym (eqb-true code 1 (sym p)); takes = (components (normal_runs a.0.0), refl, k) } in
        subst (λ (x : Instr × Spot). IsNamed code client s x.0 x.1) (ok_is (instr.Edit client a.0.0, a.0.1) (i, t) a.2) made
    by false p e =
        let n1 = eqb-false code 1 (sym p) in
        let plain = plain_is code client (omega (arith, n1, from)) to other in
        let made : IsNamed code client s (plain_instr code client) s = record { opcode_is = plain.opcode_is; takes = ([], plain.operands_are ∙ sym (append-nil (half client)), Takes-nothing s fits) } in
        subst (λ (x : Instr × Spot). IsNamed code client s x.0 x.1) (ok_is (plain_instr code client, s) (i, t) e) made

range_is : (version code : ℕ) → nat_le 1 code && nat_le code (5 + version) ≡ true → (1 ≤ code) × (code ≤ 5 + version)
range_is version code e = grind arith

is_range : (version code : ℕ) → 1 ≤ code → code ≤ 5 + version → nat_le 1 code && nat_le code (5 + version) ≡ true
is_range version code h k = rw (le-leb 1 code h, le-leb code (5 + version) k) refl

pub instr_takes : (version clients : ℕ) (s : Spot) (i : Instr) (t : Spot) → version ≤ 2 → IsBytes s.rest → instr_at version clients s ≡ Ok (i, t) → Takes s (instruction i) t × (opcode i ≤ 5 + version)
unfolding instr_at opcode_at client_at
instr_takes version clients s i t ver fits e =
    let a = bind_ok (tested w8 (λ n. nat_le 1 n && nat_le n (5 + version)) BadOpcode s) (λ code. cond (code.0 == 6) (Ok (instr.ReadServer, code.1)) (client_at clients code.1 >>= λ client. named_at code.0 client.0 client.1)) (i, t) e in
    let k0 = tested_takes w8 256 wide8 (λ n. nat_le 1 n && nat_le n (5 + version)) BadOpcode s a.0.0 a.0.1 fits a.1 in
    let text : Takes s (a.0.0 ∷ []) a.0.1 = rw (byte_is a.0.0 k0.1) at k0.0 in
    let range = range_is version a.0.0 k0.2 in
    by a.0.0 a.0.1 text range (a.0.0 == 6) refl a.2
  where
    by : (code : ℕ) (u : Spot) → Takes s (code ∷ []) u → (1 ≤ code) × (code ≤ 5 + version) → (b : Bool) → b ≡ (code == 6)
        → cond {A = Result (Instr × Spot) ImageFault} b (Ok (instr.ReadServer, u)) (client_at clients u >>= λ client. named_at code client.0 client.1) ≡ Ok (i, t) → Takes s (instruction i) t × (opcode i ≤ 5 + version)
    by code u text range true p e =
        let made : Takes s (instruction instr.ReadServer) u × (6 ≤ 5 + version) = (rw (eqb-true code 6 (sym p)) at text, let c = eqb-true code 6 (sym p) in omega (arith, c, range.1)) in
        subst (λ (x : Instr × Spot). Takes s (instruction x.0) x.1 × (opcode x.0 ≤ 5 + version)) (ok_is (instr.ReadServer, u) (i, t) e) made
    by code u text range false p e =
        let n6 = eqb-false code 6 (sym p) in
        let b = bind_ok (client_at clients u) (λ client. named_at code client.0 client.1) (i, t) e in
        let k1 = tested_takes w16 (2 ^ 16) wide16 (λ n. nat_lt n clients) BadClient u b.0.0 b.0.1 text.rest_fits b.1 in
        let k2 = named_takes code b.0.0 b.0.1 i t k1.0.rest_fits range.0 (omega (arith, range.1, ver)) n6 b.2 in
        let whole : Takes s ((code ∷ []) ++ (half b.0.0 ++ k2.takes.0)) t = Takes-then s (code ∷ []) u (half b.0.0 ++ k2.takes.0) t text (Takes-then u (half b.0.0) b.0.1 k2.takes.0 t k1.0 k2.takes.2) in
        (rw (k2.opcode_is, k2.takes.1) whole, rw k2.opcode_is range.1)

-- ---- what is spelled

opcode_spells : (version code : ℕ) → 1 ≤ code → code ≤ 5 + version → code < 256 → Spells (opcode_at version) (code ∷ []) code
unfolding opcode_at
opcode_spells version code h k small =
    subst (λ (b : List ℕ). Spells (tested w8 (λ n. nat_le 1 n && nat_le n (5 + version)) BadOpcode) b code) (byte_is code small)
    (tested_spells w8 256 wide8 (λ n. nat_le 1 n && nat_le n (5 + version)) BadOpcode code small (is_range version code h k))

client_spells : (clients client : ℕ) → client < clients → clients ≤ 64 → Spells (client_at clients) (half client) client
unfolding client_at
client_spells clients client lt few = tested_spells w16 (2 ^ 16) wide16 (λ n. nat_lt n clients) BadClient client (omega (arith, lt, few)) (lt-ltb client clients lt)

-- an instruction that names a client, with what follows it
named_spells : (version clients code client : ℕ) (i : Instr) (others : List ℕ) → 1 ≤ code → code ≤ 5 + version → code < 256 → (code == 6) ≡ false → client < clients → clients ≤ 64
    → Spells (named_at code client) others i → Spells (instr_at version clients) (code ∷ (half client ++ others)) i
unfolding instr_at
named_spells version clients code client i others h k small other lt few named =
    Spells-then (opcode_at version) (λ c. cond (c.0 == 6) (Ok (instr.ReadServer, c.1)) (client_at clients c.1 >>= λ cl. named_at c.0 cl.0 cl.1)) code i (code ∷ []) (half client ++ others) (opcode_spells version code h k small)
    (λ at rest. rw other (Spells-then (client_at clients) (λ cl. named_at code cl.0 cl.1) client i (half client) others (client_spells clients client lt few) named at rest))

plain_spells : (version clients code client : ℕ) → 2 ≤ code → code ≤ 5 + version → version ≤ 2 → (code == 6) ≡ false → (code == 1) ≡ false → client < clients → clients ≤ 64
    → Spells (instr_at version clients) (code ∷ half client) (plain_instr code client)
unfolding named_at
plain_spells version clients code client h k ver other one lt few =
    subst (λ (t : List ℕ). Spells (instr_at version clients) (code ∷ t) (plain_instr code client)) (append-nil (half client))
    (named_spells version clients code client (plain_instr code client) [] (omega (arith, h)) k (omega (arith, k, ver)) other lt few
    (λ at rest. rw one (Spells-nothing (plain_instr code client) at rest)))

edit_spells : (client : ℕ) (op : Operation ℕ) → IsSpelled op → Spells (named_at 1 client) (components (normal_runs op)) (instr.Edit client op)
unfolding named_at
edit_spells client op is = Spells-map operation_at (λ o. instr.Edit client o) op (components (normal_runs op)) (operation_spells op is)

server_spells : (version clients : ℕ) → 1 ≤ version → Spells (instr_at version clients) (6 ∷ []) instr.ReadServer
unfolding instr_at
server_spells version clients ver at rest = rw (opcode_spells version 6 (omega arith) (omega (arith, ver)) (omega arith) at rest) refl

pub instr_spells : (version clients : ℕ) → 1 ≤ version → version ≤ 2 → clients ≤ 64 → (i : Instr) → IsRight version clients i → Spells (instr_at version clients) (instruction i) i
instr_spells version clients v w few (instr.Edit c op) is = named_spells version clients 1 c (instr.Edit c op) (components (normal_runs op)) (omega arith) is.known (omega arith) refl is.client few (edit_spells c op is.spelled)
instr_spells version clients v w few (instr.Take c) is = plain_spells version clients 2 c (omega arith) is.known w refl refl is.client few
instr_spells version clients v w few (instr.Deliver c) is = plain_spells version clients 3 c (omega arith) is.known w refl refl is.client few
instr_spells version clients v w few (instr.Acknowledge c) is = plain_spells version clients 4 c (omega arith) is.known w refl refl is.client few
instr_spells version clients v w few (instr.Read c) is = plain_spells version clients 5 c (omega arith) is.known w refl refl is.client few
instr_spells version clients v w few (instr.Join c) is = plain_spells version clients 7 c (omega arith) is.known w refl refl is.client few
instr_spells version clients v w few instr.ReadServer is = server_spells version clients v
