-- What a reader takes from the front is what was written, and what was written is read again.
use Rattle.std.proofs.Common.{◌≡◌, ℕ, zero, suc, ◌+◌, ◌^◌, ◌%◌, ◌<◌, ◌≤◌, Bool, true, false, cond, ltb, List, [], ◌∷◌, ◌++◌, length, get_or, take, drop, Result, Ok, Err, refl, sym, ap, subst, ◌∙◌, append_assoc, length-append, arith, inl, inr}
use Rattle.std.specs.List.{flat_map}
use Rattle.std.specs.Int.{Width, w8, w16, w32, byte_len, from_be_bytes, to_be_bytes}
use Rattle.std.proofs.lemmas.Bool.{cases_lt, ltb-false, le-ltb}
use Rattle.std.proofs.lemmas.List.{take_at, drop_at, take-append-drop, length-take, get_or-drop, get_or-take, get_or_past}
use Rattle.std.proofs.lemmas.List.Concat.{flat_map-cons}
use Rattle.std.proofs.lemmas.Nat.{be_bytes_2, be_bytes_4, from_be_bytes-to_be_bytes_2, from_be_bytes-to_be_bytes_4}
use Rattle.ot_image.specs.declared.fault.ImageFault.{ImageFault}
use Rattle.ot_image.specs.declared.fault.Kind.{Kind}
use Rattle.ot_image.specs.Reading.{Spot, ◌>>=◌, cut, fault, past, number_at, tested, times}
use Rattle.ot_image.proofs.Fields.{bind_ok, ok_is}

abbrev pub IsBytes : List ℕ → Type 0
IsBytes bytes = (i : ℕ) → get_or bytes i 0 < 256

pub IsBytes-drop : (n : ℕ) (bytes : List ℕ) → IsBytes bytes → IsBytes (drop n bytes)
IsBytes-drop n bytes h i = rw get_or-drop (h (n + i))

IsBytes-take : (n : ℕ) (bytes : List ℕ) → IsBytes bytes → IsBytes (take n bytes)
IsBytes-take n bytes h i =
    elim (cases_lt i n) [
      | inl lt ↦ rw (get_or-take n bytes i 0 lt) (h i)
      | inr le ↦ rw (get_or_past (take n bytes) i 0 (omega (arith, length-take n bytes))) (omega arith)
    ]

abbrev pub spot : ℕ → List ℕ → Spot
spot at rest = record { at = at; rest = rest }

-- a test that did not fail
pub guard_ok : {A : Type 0} (b : Bool) (d : ImageFault) (x y : A) → cond b (Err d) (Ok x) ≡ Ok y → (b ≡ false) × (x ≡ y)
guard_ok true d x y e = absurd cc
guard_ok false d x y e = (refl, cc)

pub test_ok : {A : Type 0} (b : Bool) (d : ImageFault) (x y : A) → cond b (Ok x) (Err d) ≡ Ok y → (b ≡ true) × (x ≡ y)
test_ok true d x y e = (refl, cc)
test_ok false d x y e = absurd cc

-- what a reader took from the front
pub record Takes (from : Spot) (text : List ℕ) (to : Spot) : Type 0 where
  pub parts : from.rest ≡ text ++ to.rest
  pub rest_fits : IsBytes to.rest

pub Takes-nothing : (s : Spot) → IsBytes s.rest → Takes s [] s
Takes-nothing s h = record { parts = refl; rest_fits = h }

pub Takes-then : (a : Spot) (x : List ℕ) (b : Spot) (y : List ℕ) (c : Spot) → Takes a x b → Takes b y c → Takes a (x ++ y) c
Takes-then a x b y c p q = record { parts = p.parts ∙ ap (λ (t : List ℕ). x ++ t) q.parts ∙ sym (append_assoc x y c.rest); rest_fits = q.rest_fits }

-- the reader gives this value wherever this text stands
abbrev pub Spells : {A : Type 0} → (Spot → Result (A × Spot) ImageFault) → List ℕ → A → Type 0
Spells read text x = (at : ℕ) (rest : List ℕ) → read (spot at (text ++ rest)) ≡ Ok (x, spot (at + length text) rest)

pub Spells-nothing : {A : Type 0} (x : A) → Spells (λ s. Ok (x, s)) [] x
Spells-nothing x at rest = let e : at + 0 ≡ at = omega arith in rw e refl

pub Spells-then : {A B : Type 0} (read : Spot → Result (A × Spot) ImageFault) (more : A × Spot → Result (B × Spot) ImageFault) (x : A) (y : B) (text others : List ℕ)
    → Spells read text x → Spells (λ s. more (x, s)) others y → Spells (λ s. read s >>= more) (text ++ others) y
Spells-then read more x y text others one two at rest =
    let regroup : read (spot at ((text ++ others) ++ rest)) ≡ read (spot at (text ++ (others ++ rest))) = ap (λ (t : List ℕ). read (spot at t)) (append_assoc text others rest) in
    let first : (read (spot at ((text ++ others) ++ rest)) >>= more) ≡ more (x, spot (at + length text) (others ++ rest)) = ap (λ r. r >>= more) (regroup ∙ one at (others ++ rest)) in
    let place : (at + length text) + length others ≡ at + length (text ++ others) = omega (arith, length-append text others) in
    first ∙ two (at + length text) rest ∙ rw place refl

-- a value that is taken over without a field
pub Spells-map : {A B : Type 0} (read : Spot → Result (A × Spot) ImageFault) (f : A → B) (x : A) (text : List ℕ) → Spells read text x → Spells (λ s. read s >>= λ z. Ok (f z.0, z.1)) text (f x)
Spells-map read f x text one at rest = rw (one at rest) refl

-- ---- numbers

pub record IsWide (w : Width) (limit : ℕ) : Type 0 where
  pub len : (n : ℕ) → length (to_be_bytes w n) ≡ byte_len w
  pub back : (bytes : List ℕ) → length bytes ≡ byte_len w → IsBytes bytes → to_be_bytes w (from_be_bytes w bytes) ≡ bytes
  pub again : (n : ℕ) → n < limit → from_be_bytes w (to_be_bytes w n) ≡ n
  pub below : (bytes : List ℕ) → IsBytes bytes → from_be_bytes w bytes < limit

pub wide16 : IsWide w16 (2 ^ 16)
wide16 = record {
  len = λ n. refl;
  back = λ bytes len fits. be_bytes_2 bytes _ len fits refl;
  again = λ n lt. from_be_bytes-to_be_bytes_2 n lt;
  below = λ bytes fits. omega (arith, fits 0, fits 1);
}

pub wide32 : IsWide w32 (2 ^ 32)
wide32 = record {
  len = λ n. refl;
  back = λ bytes len fits. be_bytes_4 bytes _ len fits refl;
  again = λ n lt. from_be_bytes-to_be_bytes_4 n lt;
  below = λ bytes fits. omega (arith, fits 0, fits 1, fits 2, fits 3);
}

pub number_takes : (w : Width) (limit : ℕ) (wide : IsWide w limit) (s : Spot) (n : ℕ) (t : Spot) → IsBytes s.rest → number_at w s ≡ Ok (n, t) → Takes s (to_be_bytes w n) t × (n < limit)
number_takes w limit wide s n t fits e =
    let g = guard_ok (ltb (length s.rest) (byte_len w)) (cut s) (from_be_bytes w (take (byte_len w) s.rest), past (byte_len w) s) (n, t) e in
    let long : byte_len w ≤ length s.rest = ltb-false _ _ g.0 in
    let n-is : from_be_bytes w (take (byte_len w) s.rest) ≡ n = ap (λ (p : ℕ × Spot). p.0) g.1 in
    let t-is : past (byte_len w) s ≡ t = ap (λ (p : ℕ × Spot). p.1) g.1 in
    let rest-is : drop (byte_len w) s.rest ≡ t.rest = ap (λ (p : Spot). p.rest) t-is in
    let front : to_be_bytes w n ≡ take (byte_len w) s.rest = rw (← n-is) (wide.back (take (byte_len w) s.rest) (omega (arith, length-take (byte_len w) s.rest)) (IsBytes-take (byte_len w) s.rest fits)) in
    (record { parts = rw (front, ← rest-is) (sym (take-append-drop (byte_len w) s.rest)); rest_fits = rw (← rest-is) (IsBytes-drop (byte_len w) s.rest fits) }, rw (← n-is) (wide.below (take (byte_len w) s.rest) (IsBytes-take (byte_len w) s.rest fits)))

pub number_spells : (w : Width) (limit : ℕ) (wide : IsWide w limit) (n : ℕ) → n < limit → Spells (number_at w) (to_be_bytes w n) n
number_spells w limit wide n lt at rest =
    let len = wide.len n in
    let long : ltb (length (to_be_bytes w n ++ rest)) (byte_len w) ≡ false = le-ltb _ _ (omega (arith, length-append (to_be_bytes w n) rest)) in
    rw (long, take_at (to_be_bytes w n) rest (byte_len w) len, drop_at (to_be_bytes w n) rest (byte_len w) len, wide.again n lt, len) refl

pub tested_takes : (w : Width) (limit : ℕ) (wide : IsWide w limit) (test : ℕ → Bool) (kind : Kind) (s : Spot) (n : ℕ) (t : Spot) → IsBytes s.rest → tested w test kind s ≡ Ok (n, t)
    → Takes s (to_be_bytes w n) t × (n < limit) × (test n ≡ true)
tested_takes w limit wide test kind s n t fits e =
    let a = bind_ok (number_at w s) (λ k. cond (test k.0) (Ok k) (Err (fault s.at kind))) (n, t) e in
    let g = test_ok (test a.0.0) (fault s.at kind) a.0 (n, t) a.2 in
    let whole : Takes s (to_be_bytes w a.0.0) a.0.1 × (a.0.0 < limit) × (test a.0.0 ≡ true) = let k = number_takes w limit wide s a.0.0 a.0.1 fits a.1 in (k.0, k.1, g.0) in
    subst (λ (p : ℕ × Spot). Takes s (to_be_bytes w p.0) p.1 × (p.0 < limit) × (test p.0 ≡ true)) g.1 whole

pub tested_spells : (w : Width) (limit : ℕ) (wide : IsWide w limit) (test : ℕ → Bool) (kind : Kind) (n : ℕ) → n < limit → test n ≡ true → Spells (tested w test kind) (to_be_bytes w n) n
tested_spells w limit wide test kind n lt passes at rest = rw (number_spells w limit wide n lt at rest, passes) refl

-- a byte
pub byte_is : (n : ℕ) → n < 256 → to_be_bytes w8 n ≡ n ∷ []
byte_is n lt = let e : n % 256 ≡ n = omega arith in rw e refl

byte_back : (bytes : List ℕ) → length bytes ≡ 1 → IsBytes bytes → to_be_bytes w8 (from_be_bytes w8 bytes) ≡ bytes
byte_back [] len fits = absurd (omega (arith, len))
byte_back (b ∷ []) len fits = byte_is b (fits 0)
byte_back (b ∷ c ∷ bytes) len fits = absurd (omega (arith, len))

pub wide8 : IsWide w8 256
wide8 = record {
  len = λ n. refl;
  back = byte_back;
  again = λ n lt. omega (arith, lt);
  below = λ bytes fits. omega (arith, fits 0);
}

-- ---- repeated steps

module _ {A B : Type 0} (step : A → Spot → Result (A × Spot) ImageFault) (text : B → List ℕ) (IsStep : A → B → A → Type 0) where
  -- the items lead from one value to another
  abbrev pub Leads : A → List B → A → Type 0
  Leads x [] y = x ≡ y
  Leads x (b ∷ bs) y = (z : A) × IsStep x b z × Leads z bs y

  pub times_take : ((x : A) (s : Spot) (z : A) (t : Spot) → IsBytes s.rest → step x s ≡ Ok (z, t) → (b : B) × Takes s (text b) t × IsStep x b z)
      → (n : ℕ) (x : A) (s : Spot) (y : A) (t : Spot) → IsBytes s.rest → times step n x s ≡ Ok (y, t) → (bs : List B) × Takes s (flat_map text bs) t × Leads x bs y × (length bs ≡ n)
  unfolding times
  times_take takes zero x s y t fits e =
      let same = ok_is (x, s) (y, t) e in
      let to : s ≡ t = ap (λ (p : A × Spot). p.1) same in
      ([], subst (λ (u : Spot). Takes s [] u) to (Takes-nothing s fits), ap (λ (p : A × Spot). p.0) same, refl)
  times_take takes (suc n) x s y t fits e =
      let a = bind_ok (step x s) (λ z. times step n z.0 z.1) (y, t) e in
      let one = takes x s a.0.0 a.0.1 fits a.1 in
      let others = times_take takes n a.0.0 a.0.1 y t one.1.rest_fits a.2 in
      (one.0 ∷ others.0, rw flat_map-cons (Takes-then s (text one.0) a.0.1 (flat_map text others.0) t one.1 others.1), (a.0.0, one.2, others.2), ap suc others.3)

  pub times_spell : ((x : A) (b : B) (z : A) → IsStep x b z → Spells (step x) (text b) z)
      → (x : A) (bs : List B) (y : A) → Leads x bs y → Spells (times step (length bs) x) (flat_map text bs) y
  unfolding times
  times_spell spells x [] y leads = λ at rest. let e : at + 0 ≡ at = omega arith in rw (e, leads) refl
  times_spell spells x (b ∷ bs) y leads =
      let z = leads.0 in
      subst (λ (t : List ℕ). Spells (λ s. step x s >>= λ k. times step (length bs) k.0 k.1) t y) (sym (flat_map-cons text b bs))
      (Spells-then (step x) (λ k. times step (length bs) k.0 k.1) z y (text b) (flat_map text bs) (spells x b z leads.1) (times_spell spells z bs y leads.2))
