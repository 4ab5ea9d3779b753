-- Images: what is read is spelled so, and what is spelled so is read.
use Rattle.std.proofs.Common.{◌≡◌, ◌⊎◌, ℕ, ◌+◌, ◌^◌, ◌≤◌, ◌==◌, ◌&&◌, nat_le, nat_lt, Bool, true, false, cond, List, [], ◌∷◌, ◌++◌, length, take, drop, Result, Ok, Err, refl, sym, ap, subst, ◌∙◌, append_assoc, arith, inl, inr}
use Rattle.std.proofs.lemmas.Bool.{eqb-true, le-leb, le-ltb}
use Rattle.std.proofs.lemmas.Slice.Eq.{bytes_eq-Decides}
use Rattle.std.proofs.lemmas.List.{append-nil, take-append-drop, nil_from_length}
use Rattle.std.specs.List.{flat_map, AllByRecursion}
use Rattle.std.specs.Int.{w16, w32}
use Rattle.std.specs.Str.{bytes_eq}
use Rattle.ot_isa.specs.declared.instruction.Instr.{Instr}
use Rattle.ot_isa.specs.declared.instruction.Instr.TheVariants as instr
use Rattle.ot_isa.specs.Program.{Program, opening, with_instr, IsForClients}
use Rattle.ot_image.specs.declared.fault.ImageFault.{ImageFault}
use Rattle.ot_image.specs.declared.fault.Kind.TheVariants.{BadMagic, BadNumber, TooLong, TooMany, Trailing}
use Rattle.ot_image.specs.Reading.{Spot, ◌>>=◌, cut, fault, past, tested, times, magic1, magic2, version_at, clients_at, present_at, start_count_at, instr_count_at, push_scalar, instr_at, push_instr, head_at, program_at, image_at, image_of}
use Rattle.std.specs.List.{All}
use Rattle.std.proofs.lemmas.List.Elements.{All-from_recursion, All-head, All-tail}
use Rattle.ot_image.specs.Spelling.{opcode, instruction, bytes1, bytes2, IsOfFirst, IsImageOf}
use Rattle.ot_image.proofs.Premises.{AreScalars, IsSpelledInstr, HasImage, has_image}
use Rattle.ot_image.proofs.Fields.{bind_ok, ok_is}
use Rattle.ot_image.proofs.Spelled.{IsBytes, IsBytes-drop, spot, Takes, Takes-nothing, Takes-then, Spells, Spells-nothing, Spells-then, Spells-map, wide16, wide32, tested_takes, tested_spells, Leads, times_take, times_spell}
use Rattle.ot_image.proofs.Components.{word, chars_take, chars_spell}
use Rattle.ot_image.proofs.Instructions.{half, IsRight, instr_takes, instr_spells}

-- ---- the instructions, one after the other

record IsPushed (version : ℕ) (p : Program) (i : Instr) (q : Program) : Type 0 where
  right : IsRight version p.clients i
  few : p.clients ≤ 64
  made : with_instr p i ≡ q

abbrev with_instrs : Program → List Instr → Program
with_instrs p is = record p { instrs = p.instrs ++ is }

module _ (version : ℕ) (from : 1 ≤ version) (to : version ≤ 2) where
  abbrev Taken : Program → Instr → Program → Type 0
  Taken p i q = (opcode i ≤ 5 + version) × (with_instr p i ≡ q)

  push_takes : (p : Program) (s : Spot) (q : Program) (t : Spot) → IsBytes s.rest → push_instr version p s ≡ Ok (q, t) → (i : Instr) × Takes s (instruction i) t × Taken p i q
  unfolding push_instr
  push_takes p s q t fits e =
      let a = bind_ok (instr_at version p.clients s) (λ i. Ok (with_instr p i.0, i.1)) (q, t) e in
      let k = instr_takes version p.clients s a.0.0 a.0.1 to fits a.1 in
      let same = ok_is (with_instr p a.0.0, a.0.1) (q, t) a.2 in
      (a.0.0, subst (λ (u : Spot). Takes s (instruction a.0.0) u) (ap (λ (x : Program × Spot). x.1) same) k.0, (k.1, ap (λ (x : Program × Spot). x.0) same))

  push_spells : (p : Program) (i : Instr) (q : Program) → IsPushed version p i q → Spells (push_instr version p) (instruction i) q
  unfolding push_instr
  push_spells p i q is =
      subst (λ (r : Program). Spells (push_instr version p) (instruction i) r) is.made
      (Spells-map (instr_at version p.clients) (λ k. with_instr p k) i (instruction i) (instr_spells version p.clients from to is.few i is.right))

  pushed_all : (p : Program) (is : List Instr) (q : Program) → Leads (push_instr version) instruction Taken p is q → (with_instrs p is ≡ q) × AllByRecursion (λ i. opcode i ≤ 5 + version) is
  pushed_all p [] q leads = (ap (λ (is : List Instr). record p { instrs = is }) (append-nil p.instrs) ∙ leads, tt)
  pushed_all p (i ∷ is) q leads =
      let others = pushed_all leads.0 is q leads.2 in
      let same : with_instrs (with_instr p i) is ≡ with_instrs leads.0 is = ap (λ (r : Program). with_instrs r is) leads.1.1 in
      (ap (λ (js : List Instr). record p { instrs = js }) (sym (append_assoc p.instrs (i ∷ []) is)) ∙ same ∙ others.0, (leads.1.0, others.1))

  push_all : (p : Program) (is : List Instr) → p.clients ≤ 64 → AllByRecursion (IsRight version p.clients) is → Leads (push_instr version) instruction (IsPushed version) p is (with_instrs p is)
  push_all p [] few are = ap (λ (is : List Instr). record p { instrs = is }) (sym (append-nil p.instrs))
  push_all p (i ∷ is) few are = (
    with_instr p i,
    record { right = are.0; few = few; made = refl },
    subst (λ (q : Program). Leads (push_instr version) instruction (IsPushed version) (with_instr p i) is q) (ap (λ (js : List Instr). record p { instrs = js }) (append_assoc p.instrs (i ∷ []) is)) (push_all (with_instr p i) is few are.1),
  )

  instrs_take : (n : ℕ) (p : Program) (s : Spot) (q : Program) (t : Spot) → p.instrs ≡ [] → IsBytes s.rest → times (push_instr version) n p s ≡ Ok (q, t)
      → Takes s (flat_map instruction q.instrs) t × (length q.instrs ≡ n) × (q ≡ record p { instrs = q.instrs }) × AllByRecursion (λ i. opcode i ≤ 5 + version) q.instrs
  instrs_take n p s q t empty fits e =
      let k = times_take (push_instr version) instruction Taken push_takes n p s q t fits e in
      let all = pushed_all p k.0 q k.2 in
      let grown : p.instrs ++ k.0 ≡ q.instrs = ap (λ (r : Program). r.instrs) all.0 in
      let instrs : k.0 ≡ q.instrs = sym (ap (λ (is : List Instr). is ++ k.0) empty) ∙ grown in
      let whole : with_instrs p k.0 ≡ record p { instrs = q.instrs } = ap (λ (is : List Instr). record p { instrs = is }) (ap (λ (r : Program). r.instrs) all.0) in
      (subst (λ (is : List Instr). Takes s (flat_map instruction is) t) instrs k.1, ap (λ (is : List Instr). length is) (sym instrs) ∙ k.3, sym all.0 ∙ whole, subst (λ (is : List Instr). AllByRecursion (λ i. opcode i ≤ 5 + version) is) instrs all.1)

  instrs_spell : (p : Program) (is : List Instr) → p.clients ≤ 64 → AllByRecursion (IsRight version p.clients) is → Spells (times (push_instr version) (length is) p) (flat_map instruction is) (with_instrs p is)
  instrs_spell p is few are = times_spell (push_instr version) instruction (IsPushed version) push_spells p is (with_instrs p is) (push_all p is few are)

-- ---- the head

version_takes : (s : Spot) (v : ℕ) (t : Spot) → IsBytes s.rest → version_at s ≡ Ok (v, t) → ((v ≡ 1) × Takes s magic1 t) ⊎ ((v ≡ 2) × Takes s magic2 t)
unfolding version_at
version_takes s v t fits e = by (nat_lt (length s.rest) 4) (bytes_eq s.rest (take (length s.rest) magic1)) (bytes_eq (take 4 s.rest) magic1) (bytes_eq (take 4 s.rest) magic2) refl refl e
  where
    took : (magic : List ℕ) → bytes_eq (take 4 s.rest) magic ≡ true → Takes s magic (past 4 s)
    took magic is = record { parts = sym (take-append-drop 4 s.rest) ∙ ap (λ (x : List ℕ). x ++ drop 4 s.rest) ((bytes_eq-Decides (take 4 s.rest) magic).0 is); rest_fits = IsBytes-drop 4 s.rest fits }

    by : (a b c d : Bool) → c ≡ bytes_eq (take 4 s.rest) magic1 → d ≡ bytes_eq (take 4 s.rest) magic2
        → cond {A = Result (ℕ × Spot) ImageFault} a (cond b (Err (cut s)) (Err (fault s.at BadMagic))) (cond c (Ok (1, past 4 s)) (cond d (Ok (2, past 4 s)) (Err (fault s.at BadMagic)))) ≡ Ok (v, t)
        → ((v ≡ 1) × Takes s magic1 t) ⊎ ((v ≡ 2) × Takes s magic2 t)
    by true true c d p q e = absurd cc
    by true false c d p q e = absurd cc
    by false b true d p q e =
        let same = ok_is (1, past 4 s) (v, t) e in
        inl (sym (ap (λ (x : ℕ × Spot). x.0) same), subst (λ (u : Spot). Takes s magic1 u) (ap (λ (x : ℕ × Spot). x.1) same) (took magic1 (sym p)))
    by false b false true p q e =
        let same = ok_is (2, past 4 s) (v, t) e in
        inr (sym (ap (λ (x : ℕ × Spot). x.0) same), subst (λ (u : Spot). Takes s magic2 u) (ap (λ (x : ℕ × Spot). x.1) same) (took magic2 (sym q)))
    by false b false false p q e = absurd cc

version1_spells : Spells version_at magic1 1
unfolding version_at
version1_spells at rest = let long : nat_lt (length (magic1 ++ rest)) 4 ≡ false = le-ltb _ _ (omega arith) in rw long refl

version2_spells : Spells version_at magic2 2
unfolding version_at
version2_spells at rest = let long : nat_lt (length (magic2 ++ rest)) 4 ≡ false = le-ltb _ _ (omega arith) in rw long refl

clients_in : (n : ℕ) → 1 ≤ n → n ≤ 64 → nat_le 1 n && nat_le n 64 ≡ true
clients_in n h k = rw (le-leb 1 n h, le-leb n 64 k) refl

abbrev counted : List ℕ → List ℕ
counted chars = word (length chars) ++ flat_map word chars

-- the number of clients that are present
present1_is : (clients : ℕ) (s : Spot) (n : ℕ) (t : Spot) → IsBytes s.rest → present_at 1 clients s ≡ Ok (n, t) → (n ≡ clients) × Takes s [] t
unfolding present_at
present1_is clients s n t fits e =
    let same = ok_is (clients, s) (n, t) e in
    (sym (ap (λ (x : ℕ × Spot). x.0) same), subst (λ (u : Spot). Takes s [] u) (ap (λ (x : ℕ × Spot). x.1) same) (Takes-nothing s fits))

present2_takes : (clients : ℕ) (s : Spot) (n : ℕ) (t : Spot) → IsBytes s.rest → present_at 2 clients s ≡ Ok (n, t) → Takes s (half n) t
unfolding present_at
present2_takes clients s n t fits e =
    (tested_takes w16 (2 ^ 16) wide16 (λ n. nat_le n clients) BadNumber s n t fits e).0

start_takes : (s : Spot) (n : ℕ) (t : Spot) (chars : List ℕ) (u : Spot) → IsBytes s.rest → start_count_at s ≡ Ok (n, t) → times push_scalar n [] t ≡ Ok (chars, u) → Takes s (counted chars) u
unfolding start_count_at
start_takes s n t chars u fits e f =
    let k0 = tested_takes w32 (2 ^ 32) wide32 (λ n. nat_le n 40000) TooLong s n t fits e in
    let k1 = chars_take n t chars u k0.0.rest_fits f in
    Takes-then s (word (length chars)) t (flat_map word chars) u (rw k1.2 k0.0) k1.0

-- what the head says
abbrev HeadText : Spot → ℕ → Program → Spot → Type 0
HeadText s v p t = ((v ≡ 1) × (p.present ≡ p.clients) × Takes s (magic1 ++ half p.clients ++ counted p.start) t) ⊎ ((v ≡ 2) × Takes s (magic2 ++ half p.clients ++ half p.present ++ counted p.start) t)

record IsHead (s : Spot) (v : ℕ) (p : Program) (t : Spot) : Type 0 where
  empty : p.instrs ≡ []
  rest_fits : IsBytes t.rest
  text : HeadText s v p t

head_takes : (s : Spot) (v : ℕ) (p : Program) (t : Spot) → IsBytes s.rest → head_at s ≡ Ok ((v, p), t) → IsHead s v p t
unfolding head_at clients_at
head_takes s v p t fits e =
    let a = bind_ok (version_at s) (λ version. clients_at version.1 >>= λ clients. present_at version.0 clients.0 clients.1 >>= λ present. start_count_at present.1 >>= λ count. times push_scalar count.0 [] count.1 >>= λ start. Ok ((version.0, opening clients.0 present.0 start.0), start.1)) ((v, p), t) e in
    let b = bind_ok (clients_at a.0.1) (λ clients. present_at a.0.0 clients.0 clients.1 >>= λ present. start_count_at present.1 >>= λ count. times push_scalar count.0 [] count.1 >>= λ start. Ok ((a.0.0, opening clients.0 present.0 start.0), start.1)) ((v, p), t) a.2 in
    let c = bind_ok (present_at a.0.0 b.0.0 b.0.1) (λ present. start_count_at present.1 >>= λ count. times push_scalar count.0 [] count.1 >>= λ start. Ok ((a.0.0, opening b.0.0 present.0 start.0), start.1)) ((v, p), t) b.2 in
    let d = bind_ok (start_count_at c.0.1) (λ count. times push_scalar count.0 [] count.1 >>= λ start. Ok ((a.0.0, opening b.0.0 c.0.0 start.0), start.1)) ((v, p), t) c.2 in
    let f = bind_ok (times push_scalar d.0.0 [] d.0.1) (λ start. Ok ((a.0.0, opening b.0.0 c.0.0 start.0), start.1)) ((v, p), t) d.2 in
    let whole : (ℕ × Program) × Spot = ((a.0.0, opening b.0.0 c.0.0 f.0.0), f.0.1) in
    let same : whole ≡ ((v, p), t) = ok_is whole ((v, p), t) f.2 in
    subst (λ (x : (ℕ × Program) × Spot). IsHead s x.0.0 x.0.1 x.1) {x = whole} same
    (made a.0.0 a.0.1 (version_takes s a.0.0 a.0.1 fits a.1) b.0.0 b.0.1 b.1 c.0.0 c.0.1 c.1 d.0.0 d.0.1 d.1 f.0.0 f.0.1 f.1)
  where
    made : (version : ℕ) (s1 : Spot) → ((version ≡ 1) × Takes s magic1 s1) ⊎ ((version ≡ 2) × Takes s magic2 s1) → (clients : ℕ) (s2 : Spot) → clients_at s1 ≡ Ok (clients, s2) → (present : ℕ) (s3 : Spot) → present_at version clients s2 ≡ Ok (present, s3)
        → (count : ℕ) (s4 : Spot) → start_count_at s3 ≡ Ok (count, s4) → (start : List ℕ) (s5 : Spot) → times push_scalar count [] s4 ≡ Ok (start, s5) → IsHead s version (opening clients present start) s5
    made version s1 (inl k0) clients s2 e2 present s3 e3 count s4 e4 start s5 e5 =
        let k1 = tested_takes w16 (2 ^ 16) wide16 (λ n. nat_le 1 n && nat_le n 64) BadNumber s1 clients s2 k0.1.rest_fits e2 in
        let k2 = present1_is clients s2 present s3 k1.0.rest_fits (rw k0.0 at e3) in
        let k3 = start_takes s3 count s4 start s5 k2.1.rest_fits e4 e5 in
        record {
          empty = refl;
          rest_fits = k3.rest_fits;
          text = inl (k0.0, k2.0, Takes-then s magic1 s1 (half clients ++ counted start) s5 k0.1 (Takes-then s1 (half clients) s2 (counted start) s5 k1.0 (Takes-then s2 [] s3 (counted start) s5 k2.1 k3)));
        }
    made version s1 (inr k0) clients s2 e2 present s3 e3 count s4 e4 start s5 e5 =
        let k1 = tested_takes w16 (2 ^ 16) wide16 (λ n. nat_le 1 n && nat_le n 64) BadNumber s1 clients s2 k0.1.rest_fits e2 in
        let k2 = present2_takes clients s2 present s3 k1.0.rest_fits (rw k0.0 at e3) in
        let k3 = start_takes s3 count s4 start s5 k2.rest_fits e4 e5 in
        record {
          empty = refl;
          rest_fits = k3.rest_fits;
          text = inr (k0.0, Takes-then s magic2 s1 (half clients ++ half present ++ counted start) s5 k0.1 (Takes-then s1 (half clients) s2 (half present ++ counted start) s5 k1.0 (Takes-then s2 (half present) s3 (counted start) s5 k2 k3)));
        }

-- ---- all of it

first_known : (version : ℕ) (is : List Instr) → version ≡ 1 → AllByRecursion (λ i. opcode i ≤ 5 + version) is → AllByRecursion (λ i. opcode i ≤ 6) is
first_known version [] one are = tt
first_known version (i ∷ is) one are = (omega (arith, are.0, one), first_known version is one are.1)

-- the bytes before a place of the rest
abbrev TakesImage : Spot → Program → Spot → Type 0
TakesImage s p t = (IsOfFirst p × Takes s (bytes1 p) t) ⊎ Takes s (bytes2 p) t

program_takes : (s : Spot) (p : Program) (t : Spot) → IsBytes s.rest → program_at s ≡ Ok (p, t) → TakesImage s p t
unfolding program_at instr_count_at
program_takes s p t fits e =
    let a = bind_ok (head_at s) (λ head. instr_count_at head.1 >>= λ count. times (push_instr head.0.0) count.0 head.0.1 count.1) (p, t) e in
    let b = bind_ok (instr_count_at a.0.1) (λ count. times (push_instr a.0.0.0) count.0 a.0.0.1 count.1) (p, t) a.2 in
    let head = head_takes s a.0.0.0 a.0.0.1 a.0.1 fits a.1 in
    let k0 = tested_takes w32 (2 ^ 32) wide32 (λ n. nat_le n 100000) TooMany a.0.1 b.0.0 b.0.1 head.rest_fits b.1 in
    made a.0.0.0 a.0.0.1 a.0.1 head b.0.0 b.0.1 k0.0 head.text b.2
  where
    ended : (v : ℕ) → 1 ≤ v → v ≤ 2 → (q : Program) (s1 : Spot) → IsHead s v q s1 → (count : ℕ) (s2 : Spot) → Takes s1 (word count) s2 → times (push_instr v) count q s2 ≡ Ok (p, t)
        → Takes s1 (word (length p.instrs) ++ flat_map instruction p.instrs) t × (p ≡ record q { instrs = p.instrs }) × AllByRecursion (λ i. opcode i ≤ 5 + v) p.instrs
    ended v from to q s1 head count s2 k e =
        let i = instrs_take v from to count q s2 p t head.empty k.rest_fits e in
        (Takes-then s1 (word (length p.instrs)) s2 (flat_map instruction p.instrs) t (rw i.1 k) i.0, i.2, i.3)

    made : (v : ℕ) (q : Program) (s1 : Spot) → IsHead s v q s1 → (count : ℕ) (s2 : Spot) → Takes s1 (word count) s2 → HeadText s v q s1 → times (push_instr v) count q s2 ≡ Ok (p, t) → TakesImage s p t
    made v q s1 head count s2 k (inl text) e =
        let i = ended v (omega (arith, text.0)) (omega (arith, text.0)) q s1 head count s2 k e in
        let whole : Takes s (bytes1 (record q { instrs = p.instrs })) t = Takes-then s (magic1 ++ half q.clients ++ counted q.start) s1 (word (length p.instrs) ++ flat_map instruction p.instrs) t text.2 i.0 in
        let q-is : p ≡ record q { instrs = p.instrs } = i.1 in
        inl ((ap (λ (r : Program). r.present) q-is ∙ text.1 ∙ sym (ap (λ (r : Program). r.clients) q-is), All-from_recursion (λ i. opcode i ≤ 6) p.instrs (first_known v p.instrs text.0 i.2)), subst (λ (r : Program). Takes s (bytes1 r) t) (sym q-is) whole)
    made v q s1 head count s2 k (inr text) e =
        let i = ended v (omega (arith, text.0)) (omega (arith, text.0)) q s1 head count s2 k e in
        let whole : Takes s (bytes2 (record q { instrs = p.instrs })) t = Takes-then s (magic2 ++ half q.clients ++ half q.present ++ counted q.start) s1 (word (length p.instrs) ++ flat_map instruction p.instrs) t text.1 i.0 in
        inr (subst (λ (r : Program). Takes s (bytes2 r) t) (sym i.1) whole)

-- the bytes are those of the schedule, of either version
abbrev pub AreBytesOf : List ℕ → Program → Type 0
AreBytesOf bytes p = (IsOfFirst p × (bytes ≡ bytes1 p)) ⊎ (bytes ≡ bytes2 p)

pub image_found : (bytes : List ℕ) (p : Program) → IsBytes bytes → image_of bytes ≡ Ok p → AreBytesOf bytes p
unfolding image_at
image_found bytes p fits e =
    let a = bind_ok (program_at (spot 0 bytes)) (λ q. cond (length q.1.rest == 0) (Ok q.0) (Err (fault q.1.at Trailing))) p e in
    let g = ended (length a.0.1.rest == 0) (fault a.0.1.at Trailing) a.0.0 p a.2 in
    let k = program_takes (spot 0 bytes) a.0.0 a.0.1 fits a.1 in
    let nothing : a.0.1.rest ≡ [] = nil_from_length a.0.1.rest (eqb-true _ _ g.0) in
    subst (λ (q : Program). AreBytesOf bytes q) g.1 (whole a.0.0 a.0.1 nothing k)
  where
    ended : (b : Bool) (d : ImageFault) (x y : Program) → cond b (Ok x) (Err d) ≡ Ok y → (b ≡ true) × (x ≡ y)
    ended true d x y e = (refl, cc)
    ended false d x y e = absurd cc

    whole : (q : Program) (t : Spot) → t.rest ≡ [] → TakesImage (spot 0 bytes) q t → AreBytesOf bytes q
    whole q t nothing (inl k) = inl (k.0, k.1.parts ∙ ap (λ (r : List ℕ). bytes1 q ++ r) nothing ∙ append-nil (bytes1 q))
    whole q t nothing (inr k) = inr (k.parts ∙ ap (λ (r : List ℕ). bytes2 q ++ r) nothing ∙ append-nil (bytes2 q))

-- ---- what is spelled

start_spells : (start : List ℕ) → length start ≤ 40000 → AreScalars start → Spells (λ s. start_count_at s >>= λ count. times push_scalar count.0 [] count.1) (counted start) start
unfolding start_count_at
start_spells start few are =
    Spells-then (tested w32 (λ n. nat_le n 40000) TooLong) (λ count. times push_scalar count.0 [] count.1) (length start) start (word (length start)) (flat_map word start)
    (tested_spells w32 (2 ^ 32) wide32 (λ n. nat_le n 40000) TooLong (length start) (omega (arith, few)) (le-leb (length start) 40000 few)) (chars_spell start are)

clients_spell : (clients : ℕ) → 1 ≤ clients → clients ≤ 64 → Spells clients_at (half clients) clients
unfolding clients_at
clients_spell clients from to = tested_spells w16 (2 ^ 16) wide16 (λ n. nat_le 1 n && nat_le n 64) BadNumber clients (omega (arith, to)) (clients_in clients from to)

present1_spells : (clients : ℕ) → Spells (present_at 1 clients) [] clients
unfolding present_at
present1_spells clients = Spells-nothing clients

present2_spells : (clients present : ℕ) → present ≤ clients → clients ≤ 64 → Spells (present_at 2 clients) (half present) present
unfolding present_at
present2_spells clients present fits few = tested_spells w16 (2 ^ 16) wide16 (λ n. nat_le n clients) BadNumber present (omega (arith, fits, few)) (le-leb present clients fits)

count_spells : (n : ℕ) → n ≤ 100000 → Spells instr_count_at (word n) n
unfolding instr_count_at
count_spells n few = tested_spells w32 (2 ^ 32) wide32 (λ n. nat_le n 100000) TooMany n (omega (arith, few)) (le-leb n 100000 few)

-- the head of either version
abbrev ended_head : ℕ → ℕ → ℕ → List ℕ × Spot → Result ((ℕ × Program) × Spot) ImageFault
ended_head version clients present start = Ok ((version, opening clients present start.0), start.1)

head_spells : (version : ℕ) (magic middle : List ℕ) (p : Program) → HasImage p → Spells version_at magic version → Spells (present_at version p.clients) middle p.present
    → Spells head_at (magic ++ (half p.clients ++ (middle ++ counted p.start))) (version, opening p.clients p.present p.start)
unfolding head_at
head_spells version magic middle p has first second =
    Spells-then version_at (λ v. clients_at v.1 >>= λ clients. present_at v.0 clients.0 clients.1 >>= λ present. start_count_at present.1 >>= λ count. times push_scalar count.0 [] count.1 >>= λ start. Ok ((v.0, opening clients.0 present.0 start.0), start.1)) version _ magic (half p.clients ++ middle ++ counted p.start) first
    (Spells-then clients_at (λ clients. present_at version clients.0 clients.1 >>= λ present. start_count_at present.1 >>= λ count. times push_scalar count.0 [] count.1 >>= λ start. Ok ((version, opening clients.0 present.0 start.0), start.1)) p.clients _ (half p.clients) (middle ++ counted p.start) (clients_spell p.clients has.clients_from has.clients_to)
    (Spells-then (present_at version p.clients) (λ present. start_count_at present.1 >>= λ count. times push_scalar count.0 [] count.1 >>= λ start. Ok ((version, opening p.clients present.0 start.0), start.1)) p.present _ middle (counted p.start) second
    (λ at rest.
    let read = start_spells p.start has.start_fits has.start_scalars at rest in
    regroup (start_count_at (spot at (counted p.start ++ rest))) (spot (at + length (counted p.start)) rest) read)))
  where
    regroup : (r : Result (ℕ × Spot) ImageFault) (t : Spot) → (r >>= λ count. times push_scalar count.0 [] count.1) ≡ Ok (p.start, t)
        → (r >>= λ count. times push_scalar count.0 [] count.1 >>= ended_head version p.clients p.present) ≡ Ok ((version, opening p.clients p.present p.start), t)
    regroup (Ok x) t e = rw e refl
    regroup (Err f) t e = absurd cc

program_spells : (version : ℕ) (text : List ℕ) (p : Program) → 1 ≤ version → version ≤ 2 → HasImage p → AllByRecursion (IsRight version p.clients) p.instrs
    → Spells head_at text (version, opening p.clients p.present p.start) → Spells program_at (text ++ (word (length p.instrs) ++ flat_map instruction p.instrs)) p
unfolding program_at
program_spells version text p from to has right head =
    Spells-then head_at (λ head. instr_count_at head.1 >>= λ count. times (push_instr head.0.0) count.0 head.0.1 count.1) (version, opening p.clients p.present p.start) p text (word (length p.instrs) ++ flat_map instruction p.instrs) head
    (Spells-then instr_count_at (λ count. times (push_instr version) count.0 (opening p.clients p.present p.start) count.1) (length p.instrs) p (word (length p.instrs)) (flat_map instruction p.instrs) (count_spells (length p.instrs) has.instrs_fit)
    (instrs_spell version from to (opening p.clients p.present p.start) p.instrs has.clients_to right))

spelled_right : (version clients : ℕ) (is : List Instr) → AllByRecursion (λ i. IsForClients clients i × IsSpelledInstr i) is → AllByRecursion (λ i. opcode i ≤ 5 + version) is → AllByRecursion (IsRight version clients) is
spelled_right version clients [] are known = tt
spelled_right version clients (i ∷ is) are known = (record { client = are.0.0; known = known.0; spelled = are.0.1 }, spelled_right version clients is are.1 known.1)

opcode_most : (i : Instr) → opcode i ≤ 7
opcode_most (instr.Edit c op) = omega arith
opcode_most (instr.Take c) = omega arith
opcode_most (instr.Deliver c) = omega arith
opcode_most (instr.Acknowledge c) = omega arith
opcode_most (instr.Read c) = omega arith
opcode_most (instr.Join c) = omega arith
opcode_most instr.ReadServer = omega arith

all_known : (is : List Instr) → AllByRecursion (λ i. opcode i ≤ 5 + 2) is
all_known [] = tt
all_known (i ∷ is) = (omega (arith, opcode_most i), all_known is)

each_known : (is : List Instr) → All (λ i. opcode i ≤ 6) is → AllByRecursion (λ i. opcode i ≤ 5 + 1) is
each_known [] are = tt
each_known (i ∷ is) are = (omega (arith, All-head (λ i. opcode i ≤ 6) i is are), each_known is (All-tail (λ i. opcode i ≤ 6) i is are))

bytes1_spell : (p : Program) → HasImage p → IsOfFirst p → Spells program_at (bytes1 p) p
bytes1_spell p has one =
    program_spells 1 (magic1 ++ half p.clients ++ counted p.start) p (omega arith) (omega arith) has (spelled_right 1 p.clients p.instrs has.instrs (each_known p.instrs one.1))
    (head_spells 1 magic1 [] p has version1_spells (subst (λ (n : ℕ). Spells (present_at 1 p.clients) [] n) (sym one.0) (present1_spells p.clients)))

bytes2_spell : (p : Program) → HasImage p → Spells program_at (bytes2 p) p
bytes2_spell p has =
    program_spells 2 (magic2 ++ half p.clients ++ half p.present ++ counted p.start) p (omega arith) (omega arith) has (spelled_right 2 p.clients p.instrs has.instrs (all_known p.instrs))
    (head_spells 2 magic2 (half p.present) p has version2_spells (present2_spells p.clients p.present has.present_to has.clients_to))

image_spells : (bytes : List ℕ) (p : Program) → IsImageOf bytes p → Spells program_at bytes p
image_spells bytes p (is, inl one) = subst (λ (b : List ℕ). Spells program_at b p) (sym one.1) (bytes1_spell p (has_image p is) one.0)
image_spells bytes p (is, inr two) = subst (λ (b : List ℕ). Spells program_at b p) (sym two) (bytes2_spell p (has_image p is))

pub image_only : (bytes : List ℕ) (p : Program) → IsImageOf bytes p → image_of bytes ≡ Ok p
unfolding image_at
image_only bytes p is =
    let read = image_spells bytes p is 0 [] in
    let here : program_at (spot 0 bytes) ≡ Ok (p, spot (0 + length bytes) []) = ap (λ (b : List ℕ). program_at (spot 0 b)) (sym (append-nil bytes)) ∙ read in
    rw here refl

-- no image is a proper front of another, and different schedules have different images
pub image_front : (p q : Program) (bytes others rest : List ℕ) → IsImageOf bytes p → IsImageOf others q → bytes ++ rest ≡ others → (rest ≡ []) × (p ≡ q)
image_front p q bytes others rest is it e =
    let one : program_at (spot 0 (bytes ++ rest)) ≡ Ok (p, spot (0 + length bytes) rest) = image_spells bytes p is 0 rest in
    let two : program_at (spot 0 (others ++ [])) ≡ Ok (q, spot (0 + length others) []) = image_spells others q it 0 [] in
    let same = ok_is (p, spot (0 + length bytes) rest) (q, spot (0 + length others) []) (sym one ∙ ap (λ (b : List ℕ). program_at (spot 0 b)) (e ∙ sym (append-nil others)) ∙ two) in
    (ap (λ (x : Program × Spot). x.1.rest) same, ap (λ (x : Program × Spot). x.0) same)
