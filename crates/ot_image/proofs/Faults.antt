-- Reading fails with the fault of the first field that is cut, or whose value is not allowed.
use Rattle.std.proofs.Common.{◌≡◌, ℕ, zero, suc, ◌+◌, ◌<◌, ◌==◌, ◌&&◌, ◌||◌, Bool, true, false, cond, nat_lt, nat_le, List, [], ◌∷◌, ◌++◌, map, length, take, Result, Ok, Err, refl, sym, ap, subst, ◌∙◌, length-append, arith}
use Rattle.std.specs.Prelude.{Option, Some, None, if◌then◌else◌}
use Rattle.std.specs.Int.{Width, w8, w16, w32, byte_len, from_be_bytes}
use Rattle.std.specs.Str.{bytes_eq}
use Rattle.std.proofs.Math.Utf8.{scalar}
use Rattle.std.proofs.lemmas.Bool.{eqb-true, ltb-true}
use Rattle.std.proofs.lemmas.List.{length-map, length-take}
use Rattle.std.proofs.lemmas.Slice.Eq.{bytes_eq-Decides}
use Rattle.ot_operation.specs.Operation.{Operation, Item, New, olds, empty, with_retain, with_insert, with_delete}
use Rattle.ot_operation.proofs.RunLemmas.{length-olds}
use Rattle.ot_isa.specs.declared.instruction.Instr.{Instr}
use Rattle.ot_isa.specs.declared.instruction.Instr.TheVariants as instr
use Rattle.ot_isa.specs.Program.{Program, opening, with_instr}
use Rattle.ot_image.specs.declared.fault.ImageFault.{ImageFault}
use Rattle.ot_image.specs.declared.fault.Kind.{Kind}
use Rattle.ot_image.specs.declared.fault.Kind.TheVariants.{Cut, BadMagic, BadNumber, TooLong, TooMany, BadScalar, BadOpcode, BadClient, NotNormal, Trailing}
use Rattle.ot_image.specs.Reading.{Spot, ◌>>=◌, cut, fault, past, number_at, tested, times, magic1, magic2, version_at, clients_at, present_at, start_count_at, scalar_at, push_scalar, Edited, may_follow, code_at, base_with, target_with, length_at, filled_at, push_component, components_at, operation_at, opcode_at, client_at, plain_instr, named_at, instr_at, push_instr, instr_count_at, head_at, program_at, image_at, image_of}
use Rattle.ot_image.specs.Layout.{Layout, End, Field, first_fault, unless, any, characters, code_fault, base_after, target_after, length_fault, text, components, operation, instruction, instructions, present, after_magic, fault_of, fault_in}

bind_assoc : {A B C : Type 0} (r : Result A ImageFault) (f : A → Result B ImageFault) (g : B → Result C ImageFault) → ((r >>= f) >>= g) ≡ (r >>= λ x. f x >>= g)
bind_assoc (Ok x) f g = refl
bind_assoc (Err e) f g = refl

regrouped : {A B C : Type 0} (r : Result A ImageFault) (f : A → Result B ImageFault) (g : B → Result C ImageFault) → fault_in ((r >>= f) >>= g) ≡ fault_in (r >>= λ x. f x >>= g)
regrouped r f g = ap fault_in (bind_assoc r f g)

-- the fault of a value, or what is wrong behind it
abbrev behind : Option Kind → ℕ → Option ImageFault → Option ImageFault
behind (Some kind) at later = Some (fault at kind)
behind None at later = later

components_same : (n : ℕ) (after : Layout) (l k b c t u : ℕ) → l ≡ k → b ≡ c → t ≡ u → components n l b t after ≡ components n k c u after
components_same n after l k b c t u e f g = rw (e, f, g) refl

module _ {B : Type 0} where
  -- ---- one field

  field_agrees : (width : Width) (refused : ℕ → Option Kind) (next : ℕ → Layout) (s : Spot) (more : ℕ × Spot → Result B ImageFault)
      → ((n : ℕ) (t : Spot) → fault_in (more (n, t)) ≡ behind (refused n) s.at (first_fault (next n) t))
      → fault_in (number_at width s >>= more) ≡ first_fault (Field width refused next) s
  unfolding first_fault
  field_agrees width refused next s more on = by (nat_lt (length s.rest) (byte_len width))
    where
      value : ℕ
      value = from_be_bytes width (take (byte_len width) s.rest)

      chosen : (o : Option Kind) (later : Option ImageFault) → behind o s.at later ≡ elim o [ Some kind ↦ Some (fault s.at kind) | None ↦ later ]
      chosen (Some kind) later = refl
      chosen None later = refl

      by : (b : Bool) → fault_in (cond {A = Result (ℕ × Spot) ImageFault} b (Err (cut s)) (Ok (value, past (byte_len width) s)) >>= more)
          ≡ cond b (Some (cut s)) (elim (refused value) [ Some kind ↦ Some (fault s.at kind) | None ↦ first_fault (next value) (past (byte_len width) s) ])
      by true = refl
      by false = on value (past (byte_len width) s) ∙ chosen (refused value) (first_fault (next value) (past (byte_len width) s))

  tested_agrees : (width : Width) (test : ℕ → Bool) (kind : Kind) (next : ℕ → Layout) (s : Spot) (more : ℕ × Spot → Result B ImageFault)
      → ((n : ℕ) (t : Spot) → test n ≡ true → fault_in (more (n, t)) ≡ first_fault (next n) t)
      → fault_in (tested width test kind s >>= more) ≡ first_fault (Field width (unless test kind) next) s
  tested_agrees width test kind next s more on =
      regrouped (number_at width s) (λ n. cond (test n.0) (Ok n) (Err (fault s.at kind))) more
      ∙ field_agrees width (unless test kind) next s (λ n. cond (test n.0) (Ok n) (Err (fault s.at kind)) >>= more) (λ n t. by n t (test n) refl)
    where
      by : (n : ℕ) (t : Spot) (b : Bool) → test n ≡ b → fault_in (cond {A = Result (ℕ × Spot) ImageFault} b (Ok (n, t)) (Err (fault s.at kind)) >>= more) ≡ behind (cond b None (Some kind)) s.at (first_fault (next n) t)
      by n t true is = on n t is
      by n t false is = refl

  any_agrees : (width : Width) (next : ℕ → Layout) (s : Spot) (more : ℕ × Spot → Result B ImageFault)
      → ((n : ℕ) (t : Spot) → fault_in (more (n, t)) ≡ first_fault (next n) t) → fault_in (number_at width s >>= more) ≡ first_fault (Field width any next) s
  any_agrees width next s more on = field_agrees width any next s more on

  code_agrees : (last : ℕ) (next : ℕ → Layout) (s : Spot) (more : ℕ × Spot → Result B ImageFault)
      → ((n : ℕ) (t : Spot) → nat_le 16 n && nat_le n 18 ≡ true → fault_in (more (n, t)) ≡ first_fault (next n) t)
      → fault_in (code_at last s >>= more) ≡ first_fault (Field w8 (code_fault last) next) s
  unfolding code_at
  code_agrees last next s more on =
      regrouped (number_at w8 s) choose more ∙ field_agrees w8 (code_fault last) next s (λ n. choose n >>= more) (λ n t. by n t (nat_le 16 n && nat_le n 18) (may_follow last n) refl)
    where
      choose : ℕ × Spot → Result (ℕ × Spot) ImageFault
      choose n = cond (nat_le 16 n.0 && nat_le n.0 18) (cond (may_follow last n.0) (Ok n) (Err (fault s.at NotNormal))) (Err (fault s.at BadOpcode))

      by : (n : ℕ) (t : Spot) (b c : Bool) → nat_le 16 n && nat_le n 18 ≡ b
          → fault_in (cond {A = Result (ℕ × Spot) ImageFault} b (cond c (Ok (n, t)) (Err (fault s.at NotNormal))) (Err (fault s.at BadOpcode)) >>= more)
          ≡ behind (cond b (cond c None (Some NotNormal)) (Some BadOpcode)) s.at (first_fault (next n) t)
      by n t true true is = on n t is
      by n t true false is = refl
      by n t false c is = refl

  length_agrees : (code : ℕ) (op : Operation ℕ) (next : ℕ → Layout) (s : Spot) (more : ℕ × Spot → Result B ImageFault)
      → ((n : ℕ) (t : Spot) → fault_in (more (n, t)) ≡ first_fault (next n) t)
      → fault_in (length_at code op s >>= more) ≡ first_fault (Field w32 (length_fault code op.base (length op.image)) next) s
  unfolding length_at
  length_agrees code op next s more on =
      regrouped (number_at w32 s) choose more ∙ field_agrees w32 (length_fault code op.base (length op.image)) next s (λ n. choose n >>= more)
      (λ n t. by n t (n == 0) (nat_le (base_with code op n) 1000000 && nat_le (target_with code op n) 1000000))
    where
      choose : ℕ × Spot → Result (ℕ × Spot) ImageFault
      choose n = cond (n.0 == 0) (Err (fault s.at BadNumber)) (cond (nat_le (base_with code op n.0) 1000000 && nat_le (target_with code op n.0) 1000000) (Ok n) (Err (fault s.at TooLong)))

      by : (n : ℕ) (t : Spot) (b c : Bool)
          → fault_in (cond {A = Result (ℕ × Spot) ImageFault} b (Err (fault s.at BadNumber)) (cond c (Ok (n, t)) (Err (fault s.at TooLong))) >>= more)
          ≡ behind (cond b (Some BadNumber) (cond c None (Some TooLong))) s.at (first_fault (next n) t)
      by n t true c = refl
      by n t false true = on n t
      by n t false false = refl

  -- ---- characters

  characters_step : (n : ℕ) (chars : List ℕ) (after : Layout) (s : Spot) (more : List ℕ × Spot → Result B ImageFault)
      → ((c : ℕ) (t : Spot) → fault_in (times push_scalar n (chars ++ c ∷ []) t >>= more) ≡ first_fault (characters n after) t)
      → fault_in (times push_scalar (suc n) chars s >>= more) ≡ first_fault (characters (suc n) after) s
  unfolding times characters push_scalar scalar_at
  characters_step n chars after s more others =
      regrouped (push_scalar chars s) (λ y. times push_scalar n y.0 y.1) more
      ∙ regrouped (tested w32 scalar BadScalar s) (λ c. Ok (chars ++ c.0 ∷ [], c.1)) (λ y. times push_scalar n y.0 y.1 >>= more)
      ∙ tested_agrees w32 scalar BadScalar (λ c. characters n after) s (λ c. times push_scalar n (chars ++ c.0 ∷ []) c.1 >>= more) (λ c t is. others c t)

  characters_agree : (n : ℕ) (chars : List ℕ) (after : Layout) (s : Spot) (more : List ℕ × Spot → Result B ImageFault)
      → ((xs : List ℕ) (t : Spot) → length xs ≡ length chars + n → fault_in (more (xs, t)) ≡ first_fault after t)
      → fault_in (times push_scalar n chars s >>= more) ≡ first_fault (characters n after) s
  unfolding times characters
  characters_agree zero chars after s more on = on chars s (omega arith)
  characters_agree (suc n) chars after s more on =
      characters_step n chars after s more
      (λ c t. characters_agree n (chars ++ c ∷ []) after t more (λ xs u len. on xs u (omega (arith, len, length-append chars (c ∷ [])))))

  -- ---- operations

  filled_agrees : (code n : ℕ) (op : Operation ℕ) (after : Layout) (s : Spot) (more : Edited × Spot → Result B ImageFault) → nat_le 16 code && nat_le code 18 ≡ true
      → ((x : Edited) (t : Spot) → x.last ≡ code → x.op.base ≡ base_after code op.base n → length x.op.image ≡ target_after code (length op.image) n → fault_in (more (x, t)) ≡ first_fault after t)
      → fault_in (filled_at code n op s >>= more) ≡ first_fault (text code n after) s
  unfolding filled_at
  filled_agrees code n op after s more range on = by (code == 16) (code == 18) refl refl
    where
      inserted : Result (Edited × Spot) ImageFault
      inserted = times push_scalar n [] s >>= λ chars. Ok (record { last = 17; op = with_insert op chars.0 }, chars.1)

      retain : code ≡ 16 → fault_in (more (record { last = 16; op = with_retain op n }, s)) ≡ first_fault (text code n after) s
      retain is =
          rw is (on (record { last = 16; op = with_retain op n }) s (sym is)
          (rw is refl) (rw is (length-append op.image (olds op.base n) ∙ ap (λ k. length op.image + k) (length-olds ℕ op.base n))))

      delete : code ≡ 18 → fault_in (more (record { last = 18; op = with_delete op n }, s)) ≡ first_fault (text code n after) s
      delete is = rw is (on (record { last = 18; op = with_delete op n }) s (sym is) (rw is refl) (rw is refl))

      grown : (xs : List ℕ) → length xs ≡ 0 + n → length (op.image ++ map New xs) ≡ length op.image + n
      grown xs len = omega (arith, len, length-append op.image (map New xs), length-map {B = Item ℕ} xs New)

      insert : code ≡ 17 → fault_in (inserted >>= more) ≡ first_fault (text code n after) s
      insert is =
          rw is (regrouped (times push_scalar n [] s) (λ chars. Ok (record { last = 17; op = with_insert op chars.0 }, chars.1)) more
          ∙ characters_agree n [] after s (λ chars. more (record { last = 17; op = with_insert op chars.0 }, chars.1))
          (λ xs t len. on (record { last = 17; op = with_insert op xs }) t (sym is) (rw is refl) (rw is (grown xs len))))

      insertion : (k : ℕ) → nat_le 16 k && nat_le k 18 ≡ true → (k == 16) ≡ false → (k == 18) ≡ false → k ≡ 17
      insertion k r p q = grind arith

      by : (b c : Bool) → (code == 16) ≡ b → (code == 18) ≡ c
          → fault_in (cond {A = Result (Edited × Spot) ImageFault} b (Ok (record { last = 16; op = with_retain op n }, s)) (cond c (Ok (record { last = 18; op = with_delete op n }, s)) inserted) >>= more) ≡ first_fault (text code n after) s
      by true c p q = retain (eqb-true code 16 p)
      by false true p q = delete (eqb-true code 18 q)
      by false false p q = insert (insertion code range p q)

  components_step : (n : ℕ) (x : Edited) (after : Layout) (s : Spot) (more : Edited × Spot → Result B ImageFault)
      → ((y : Edited) (t : Spot) → fault_in (times push_component n y t >>= more) ≡ first_fault (components n y.last y.op.base (length y.op.image) after) t)
      → fault_in (times push_component (suc n) x s >>= more) ≡ first_fault (components (suc n) x.last x.op.base (length x.op.image) after) s
  unfolding times components push_component
  components_step n x after s more again =
      regrouped (push_component x s) (λ y. times push_component n y.0 y.1) more
      ∙ regrouped (code_at x.last s) (λ code. length_at code.0 x.op code.1 >>= λ n. filled_at code.0 n.0 x.op n.1) rest
      ∙ code_agrees x.last (λ code. Field w32 (length_fault code x.op.base (length x.op.image)) (λ size. text code size (row code size))) s
      (λ code. (length_at code.0 x.op code.1 >>= λ n. filled_at code.0 n.0 x.op n.1) >>= rest)
      (λ code t range.
      regrouped (length_at code x.op t) (λ n. filled_at code n.0 x.op n.1) rest
      ∙ length_agrees code x.op (λ size. text code size (row code size)) t (λ n. filled_at code n.0 x.op n.1 >>= rest)
      (λ size u. filled_agrees code size x.op (row code size) u rest range (others code size)))
    where
      rest : Edited × Spot → Result B ImageFault
      rest y = times push_component n y.0 y.1 >>= more

      row : ℕ → ℕ → Layout
      row code size = components n code (base_after code x.op.base size) (target_after code (length x.op.image) size) after

      others : (code size : ℕ) (y : Edited) (t : Spot) → y.last ≡ code → y.op.base ≡ base_after code x.op.base size → length y.op.image ≡ target_after code (length x.op.image) size → fault_in (rest (y, t)) ≡ first_fault (row code size) t
      others code size y t e f g =
          again y t ∙ ap (λ (row : Layout). first_fault row t) (components_same n after y.last code y.op.base (base_after code x.op.base size) (length y.op.image) (target_after code (length x.op.image) size) e f g)

  components_agree : (n : ℕ) (x : Edited) (after : Layout) (s : Spot) (more : Edited × Spot → Result B ImageFault)
      → ((y : Edited) (t : Spot) → fault_in (more (y, t)) ≡ first_fault after t)
      → fault_in (times push_component n x s >>= more) ≡ first_fault (components n x.last x.op.base (length x.op.image) after) s
  unfolding times components
  components_agree zero x after s more on = on x s
  components_agree (suc n) x after s more on = components_step n x after s more (λ y t. components_agree n y after t more on)

  operation_agrees : (after : Layout) (s : Spot) (more : Operation ℕ × Spot → Result B ImageFault)
      → ((op : Operation ℕ) (t : Spot) → fault_in (more (op, t)) ≡ first_fault after t) → fault_in (operation_at s >>= more) ≡ first_fault (operation after) s
  unfolding operation_at components_at
  operation_agrees after s more on =
      regrouped (number_at w32 s) (λ count. components_at count.0 count.1) more
      ∙ any_agrees w32 (λ count. components count 0 0 0 after) s (λ count. components_at count.0 count.1 >>= more)
      (λ count t. regrouped (times push_component count (record { last = 0; op = empty }) t) (λ edited. Ok (edited.0.op, edited.1)) more
      ∙ components_agree count (record { last = 0; op = empty }) after t (λ edited. more (edited.0.op, edited.1)) (λ y u. on y.op u))

  -- ---- instructions

  named_agrees : (code client : ℕ) (after : Layout) (s : Spot) (more : Instr × Spot → Result B ImageFault)
      → ((i : Instr) (t : Spot) → fault_in (more (i, t)) ≡ first_fault after t)
      → fault_in (named_at code client s >>= more) ≡ first_fault (if code == 1 then operation after else after) s
  unfolding named_at
  named_agrees code client after s more on = by (code == 1)
    where
      by : (b : Bool) → fault_in (cond {A = Result (Instr × Spot) ImageFault} b (operation_at s >>= λ op. Ok (instr.Edit client op.0, op.1)) (Ok (plain_instr code client, s)) >>= more) ≡ first_fault (cond b (operation after) after) s
      by true =
          regrouped (operation_at s) (λ op. Ok (instr.Edit client op.0, op.1)) more
          ∙ operation_agrees after s (λ op. more (instr.Edit client op.0, op.1)) (λ op t. on (instr.Edit client op) t)
      by false = on (plain_instr code client) s

  instr_agrees : (version clients : ℕ) (after : Layout) (s : Spot) (more : Instr × Spot → Result B ImageFault)
      → ((i : Instr) (t : Spot) → fault_in (more (i, t)) ≡ first_fault after t)
      → fault_in (instr_at version clients s >>= more) ≡ first_fault (instruction version clients after) s
  unfolding instr_at opcode_at client_at
  instr_agrees version clients after s more on =
      regrouped (opcode_at version s) kinds more
      ∙ tested_agrees w8 (λ code. nat_le 1 code && nat_le code (5 + version)) BadOpcode
      (λ code. if code == 6 then after else Field w16 (unless (λ client. nat_lt client clients) BadClient) (λ client. if code == 1 then operation after else after)) s
      (λ code. kinds code >>= more) (λ code t is. by code t (code == 6))
    where
      kinds : ℕ × Spot → Result (Instr × Spot) ImageFault
      kinds code = cond (code.0 == 6) (Ok (instr.ReadServer, code.1)) (client_at clients code.1 >>= λ client. named_at code.0 client.0 client.1)

      by : (code : ℕ) (t : Spot) (b : Bool)
          → fault_in (cond {A = Result (Instr × Spot) ImageFault} b (Ok (instr.ReadServer, t)) (client_at clients t >>= λ client. named_at code client.0 client.1) >>= more)
          ≡ first_fault (cond b after (Field w16 (unless (λ client. nat_lt client clients) BadClient) (λ client. if code == 1 then operation after else after))) t
      by code t true = on instr.ReadServer t
      by code t false =
          regrouped (client_at clients t) (λ client. named_at code client.0 client.1) more
          ∙ tested_agrees w16 (λ client. nat_lt client clients) BadClient (λ client. if code == 1 then operation after else after) t (λ client. named_at code client.0 client.1 >>= more)
          (λ client u is. named_agrees code client after u more on)

  instructions_step : (version n : ℕ) (p : Program) (s : Spot) (more : Program × Spot → Result B ImageFault)
      → ((q : Program) (t : Spot) → q.clients ≡ p.clients → fault_in (times (push_instr version) n q t >>= more) ≡ first_fault (instructions version p.clients n) t)
      → fault_in (times (push_instr version) (suc n) p s >>= more) ≡ first_fault (instructions version p.clients (suc n)) s
  unfolding times instructions push_instr
  instructions_step version n p s more again =
      regrouped (push_instr version p s) (λ q. times (push_instr version) n q.0 q.1) more
      ∙ regrouped (instr_at version p.clients s) (λ i. Ok (with_instr p i.0, i.1)) (λ q. times (push_instr version) n q.0 q.1 >>= more)
      ∙ instr_agrees version p.clients (instructions version p.clients n) s (λ i. times (push_instr version) n (with_instr p i.0) i.1 >>= more)
      (λ i t. again (with_instr p i) t refl)

  instructions_agree : (version n : ℕ) (clients : ℕ) (p : Program) (s : Spot) (more : Program × Spot → Result B ImageFault) → p.clients ≡ clients
      → ((q : Program) (t : Spot) → fault_in (more (q, t)) ≡ first_fault End t)
      → fault_in (times (push_instr version) n p s >>= more) ≡ first_fault (instructions version clients n) s
  unfolding times instructions
  instructions_agree version zero clients p s more is on = on p s
  instructions_agree version (suc n) clients p s more is on =
      subst (λ (k : ℕ). fault_in (times (push_instr version) (suc n) p s >>= more) ≡ first_fault (instructions version k (suc n)) s) is
      (instructions_step version n p s more (λ q t same. instructions_agree version n p.clients q t more same on))

  -- ---- the head

  present_agrees : (version clients : ℕ) (after : Layout) (s : Spot) (more : ℕ × Spot → Result B ImageFault)
      → ((n : ℕ) (t : Spot) → fault_in (more (n, t)) ≡ first_fault after t) → fault_in (present_at version clients s >>= more) ≡ first_fault (present version clients after) s
  unfolding present_at
  present_agrees version clients after s more on = by (version == 1)
    where
      by : (b : Bool) → fault_in (cond {A = Result (ℕ × Spot) ImageFault} b (Ok (clients, s)) (tested w16 (λ n. nat_le n clients) BadNumber s) >>= more)
          ≡ first_fault (cond b after (Field w16 (unless (λ n. nat_le n clients) BadNumber) (λ n. after))) s
      by true = on clients s
      by false = tested_agrees w16 (λ n. nat_le n clients) BadNumber (λ n. after) s more (λ n t is. on n t)

  after_agrees : (version : ℕ) (s : Spot) (rest : (ℕ × Program) × Spot → Result B ImageFault)
      → ((clients n : ℕ) (start : List ℕ) (t : Spot) → fault_in (rest ((version, opening clients n start), t)) ≡ first_fault (Field w32 (unless (λ n. nat_le n 100000) TooMany) (λ instrs. instructions version clients instrs)) t)
      → fault_in ((clients_at s >>= λ clients. present_at version clients.0 clients.1 >>= λ present. start_count_at present.1 >>= λ count. times push_scalar count.0 [] count.1 >>= λ start. Ok ((version, opening clients.0 present.0 start.0), start.1)) >>= rest)
      ≡ first_fault (after_magic version) s
  unfolding after_magic clients_at start_count_at
  after_agrees version s rest on =
      regrouped (clients_at s) (λ clients. present_at version clients.0 clients.1 >>= presented clients.0) rest
      ∙ tested_agrees w16 (λ n. nat_le 1 n && nat_le n 64) BadNumber (λ clients. present version clients (counted clients)) s (λ clients. (present_at version clients.0 clients.1 >>= presented clients.0) >>= rest)
      (λ clients t is.
      regrouped (present_at version clients t) (presented clients) rest
      ∙ present_agrees version clients (counted clients) t (λ present. presented clients present >>= rest)
      (λ n u.
      regrouped (start_count_at u) (started clients n) rest
      ∙ tested_agrees w32 (λ n. nat_le n 40000) TooLong (λ count. characters count (instrs clients)) u (λ count. started clients n count >>= rest)
      (λ count v is.
      regrouped (times push_scalar count [] v) (λ start. Ok ((version, opening clients n start.0), start.1)) rest
      ∙ characters_agree count [] (instrs clients) v (λ start. rest ((version, opening clients n start.0), start.1)) (λ xs w len. on clients n xs w))))
    where
      instrs : ℕ → Layout
      instrs clients = Field w32 (unless (λ n. nat_le n 100000) TooMany) (λ n. instructions version clients n)

      counted : ℕ → Layout
      counted clients = Field w32 (unless (λ n. nat_le n 40000) TooLong) (λ count. characters count (instrs clients))

      started : ℕ → ℕ → ℕ × Spot → Result ((ℕ × Program) × Spot) ImageFault
      started clients present count = times push_scalar count.0 [] count.1 >>= λ start. Ok ((version, opening clients present start.0), start.1)

      presented : ℕ → ℕ × Spot → Result ((ℕ × Program) × Spot) ImageFault
      presented clients present = start_count_at present.1 >>= started clients present.0

  -- ---- the magic

  magic_agrees : (bytes : List ℕ) (more : ℕ × Spot → Result B ImageFault) → ((version : ℕ) (t : Spot) → fault_in (more (version, t)) ≡ first_fault (after_magic version) t)
      → fault_in (version_at (record { at = 0; rest = bytes }) >>= more) ≡ fault_of bytes
  unfolding version_at fault_of
  magic_agrees bytes more on =
      by (nat_lt (length bytes) 4) (bytes_eq bytes (take (length bytes) magic1)) (bytes_eq bytes (take (length bytes) magic2)) (bytes_eq (take 4 bytes) magic1) (bytes_eq (take 4 bytes) magic2)
      (λ is. let few = ltb-true (length bytes) 4 is in (other few magic1 refl (bytes_eq (take 4 bytes) magic1) refl, other few magic2 refl (bytes_eq (take 4 bytes) magic2) refl, ap (bytes_eq bytes) (same_front (length bytes) few)))
    where
      s : Spot
      s = record { at = 0; rest = bytes }

      same_front : (n : ℕ) → n < 4 → take n magic1 ≡ take n magic2
      same_front zero lt = refl
      same_front (suc zero) lt = refl
      same_front (suc (suc zero)) lt = refl
      same_front (suc (suc (suc zero))) lt = refl
      same_front (suc (suc (suc (suc n)))) lt = absurd (omega (arith, lt))

      other : length bytes < 4 → (magic : List ℕ) → length magic ≡ 4 → (b : Bool) → bytes_eq (take 4 bytes) magic ≡ b → b ≡ false
      other few magic len true is = absurd (let same = ap length ((bytes_eq-Decides (take 4 bytes) magic).0 is) in omega (arith, few, len, same, length-take 4 bytes))
      other few magic len false is = refl

      by : (a b f c d : Bool) → (a ≡ true → (c ≡ false) × (d ≡ false) × (b ≡ f))
          → fault_in (cond {A = Result (ℕ × Spot) ImageFault} a (cond b (Err (cut s)) (Err (fault 0 BadMagic))) (cond c (Ok (1, past 4 s)) (cond d (Ok (2, past 4 s)) (Err (fault 0 BadMagic)))) >>= more)
          ≡ cond c (first_fault (after_magic 1) (past 4 s)) (cond d (first_fault (after_magic 2) (past 4 s)) (cond (a && (b || f)) (Some (fault (length bytes) Cut)) (Some (fault 0 BadMagic))))
      by true b f true d h = absurd (let e = (h refl).0 in cc)
      by true b f false true h = absurd (let e = (h refl).1 in cc)
      by true true true false false h = let e : 0 + length bytes ≡ length bytes = omega arith in rw e refl
      by true true false false false h = absurd (let e = (h refl).2 in cc)
      by true false true false false h = absurd (let e = (h refl).2 in cc)
      by true false false false false h = refl
      by false b f true d h = on 1 (past 4 s)
      by false b f false true h = on 2 (past 4 s)
      by false b f false false h = refl

-- ---- the whole

ends : Program × Spot → Result Program ImageFault
ends p = if length p.1.rest == 0 then Ok p.0 else Err (fault p.1.at Trailing)

end_agrees : (p : Program) (s : Spot) → fault_in (ends (p, s)) ≡ first_fault End s
unfolding ends first_fault
end_agrees p s = by (length s.rest == 0)
  where
    by : (b : Bool) → fault_in (cond {A = Result Program ImageFault} b (Ok p) (Err (fault s.at Trailing))) ≡ cond b None (Some (fault s.at Trailing))
    by true = refl
    by false = refl

counted : (ℕ × Program) × Spot → Result (Program × Spot) ImageFault
counted head = instr_count_at head.1 >>= λ count. times (push_instr head.0.0) count.0 head.0.1 count.1

last_agrees : (version : ℕ) (p : Program) (s : Spot) → fault_in (counted ((version, p), s) >>= ends) ≡ first_fault (Field w32 (unless (λ n. nat_le n 100000) TooMany) (λ instrs. instructions version p.clients instrs)) s
unfolding counted instr_count_at
last_agrees version p s =
    regrouped (instr_count_at s) (λ count. times (push_instr version) count.0 p count.1) ends
    ∙ tested_agrees w32 (λ n. nat_le n 100000) TooMany (λ instrs. instructions version p.clients instrs) s (λ count. times (push_instr version) count.0 p count.1 >>= ends)
    (λ n t is. instructions_agree version n p.clients p t ends refl end_agrees)

pub faults_agree : (bytes : List ℕ) → fault_of bytes ≡ fault_in (image_of bytes)
unfolding image_at program_at head_at ends counted
faults_agree bytes =
    let s : Spot = record { at = 0; rest = bytes } in
    sym (
    regrouped (head_at s) counted ends
    ∙ regrouped (version_at s) tail (λ head. counted head >>= ends)
    ∙ magic_agrees bytes (λ version. tail version >>= λ head. counted head >>= ends)
    (λ version t. after_agrees version t (λ head. counted head >>= ends) (λ clients n start u. last_agrees version (opening clients n start) u))
    )
  where
    tail : ℕ × Spot → Result ((ℕ × Program) × Spot) ImageFault
    tail version = clients_at version.1 >>= λ clients. present_at version.0 clients.0 clients.1 >>= λ present. start_count_at present.1 >>= λ count. times push_scalar count.0 [] count.1 >>= λ start. Ok ((version.0, opening clients.0 present.0 start.0), start.1)
