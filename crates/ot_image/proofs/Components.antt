-- Characters and components: what is read is spelled so, and what is spelled so is read.
use Rattle.std.proofs.Common.{◌≡◌, ℕ, ◌^◌, ◌<◌, ◌==◌, ◌&&◌, Bool, true, false, cond, nat_le, List, [], ◌∷◌, ◌++◌, length, Result, Ok, Err, refl, sym, ap, subst, ◌∙◌, append_assoc, arith}
use Rattle.std.proofs.lemmas.List.{append-nil}
use Rattle.std.proofs.lemmas.Bool.{eqb-true}
use Rattle.std.proofs.Math.Utf8.{scalar_fits}
use Rattle.std.specs.List.{flat_map}
use Rattle.std.specs.Int.{w8, w32, to_be_bytes}
use Rattle.std.proofs.Math.Utf8.{scalar}
use Rattle.ot_operation.specs.Operation.{Operation, with_retain, with_insert, with_delete}
use Rattle.ot_operation.specs.Run.{Run, Keep, Add, Skip}
use Rattle.ot_image.specs.declared.fault.ImageFault.{ImageFault}
use Rattle.ot_image.specs.declared.fault.Kind.TheVariants.{BadScalar, BadOpcode, BadNumber, NotNormal, TooLong}
use Rattle.ot_image.specs.Reading.{Spot, ◌>>=◌, fault, number_at, tested, times, scalar_at, push_scalar, Edited, may_follow, base_with, target_with, code_at, length_at, filled_at, push_component}
use Rattle.ot_image.specs.Spelling.{code_of, size_of, chars_in, component}
use Rattle.ot_image.proofs.Premises.{AreScalars}
use Rattle.ot_image.proofs.Fields.{bind_ok, ok_is}
use Rattle.ot_image.proofs.Spelled.{IsBytes, Takes, Takes-nothing, Takes-then, Spells, Spells-nothing, Spells-then, Spells-map, wide8, wide32, byte_is, number_takes, number_spells, tested_takes, tested_spells, Leads, times_take, times_spell}

abbrev pub word : ℕ → List ℕ
word = to_be_bytes w32

-- ---- characters

abbrev IsChar : List ℕ → ℕ → List ℕ → Type 0
IsChar chars c more = (scalar c ≡ true) × (chars ++ c ∷ [] ≡ more)

scalar_takes : (chars : List ℕ) (s : Spot) (more : List ℕ) (t : Spot) → IsBytes s.rest → push_scalar chars s ≡ Ok (more, t) → (c : ℕ) × Takes s (word c) t × IsChar chars c more
unfolding push_scalar scalar_at
scalar_takes chars s more t fits e =
    let a = bind_ok (tested w32 scalar BadScalar s) (λ c. Ok (chars ++ c.0 ∷ [], c.1)) (more, t) e in
    let k = tested_takes w32 (2 ^ 32) wide32 scalar BadScalar s a.0.0 a.0.1 fits a.1 in
    let same = ok_is (chars ++ a.0.0 ∷ [], a.0.1) (more, t) a.2 in
    (a.0.0, subst (λ (u : Spot). Takes s (word a.0.0) u) (ap (λ (p : List ℕ × Spot). p.1) same) k.0, (k.2, ap (λ (p : List ℕ × Spot). p.0) same))

scalar_spells : (chars : List ℕ) (c : ℕ) (more : List ℕ) → IsChar chars c more → Spells (push_scalar chars) (word c) more
unfolding push_scalar scalar_at
scalar_spells chars c more is =
    subst (λ (m : List ℕ). Spells (push_scalar chars) (word c) m) is.1
    (Spells-map (tested w32 scalar BadScalar) (λ k. chars ++ k ∷ []) c (word c) (tested_spells w32 (2 ^ 32) wide32 scalar BadScalar c (scalar_fits c is.0) is.0))

chars_led : (front cs more : List ℕ) → Leads push_scalar word IsChar front cs more → (front ++ cs ≡ more) × AreScalars cs
chars_led front [] more leads = (append-nil front ∙ leads, tt)
chars_led front (c ∷ cs) more leads =
    let others = chars_led leads.0 cs more leads.2 in
    (sym (append_assoc front (c ∷ []) cs) ∙ ap (λ (x : List ℕ). x ++ cs) leads.1.1 ∙ others.0, (leads.1.0, others.1))

chars_lead : (front cs : List ℕ) → AreScalars cs → Leads push_scalar word IsChar front cs (front ++ cs)
chars_lead front [] are = sym (append-nil front)
chars_lead front (c ∷ cs) are = (front ++ c ∷ [], (are.0, refl), subst (λ (m : List ℕ). Leads push_scalar word IsChar (front ++ c ∷ []) cs m) (append_assoc front (c ∷ []) cs) (chars_lead (front ++ c ∷ []) cs are.1))

pub chars_take : (n : ℕ) (s : Spot) (chars : List ℕ) (t : Spot) → IsBytes s.rest → times push_scalar n [] s ≡ Ok (chars, t) → Takes s (flat_map word chars) t × AreScalars chars × (length chars ≡ n)
chars_take n s chars t fits e =
    let k = times_take push_scalar word IsChar scalar_takes n [] s chars t fits e in
    let led = chars_led [] k.0 chars k.2 in
    subst (λ (cs : List ℕ). Takes s (flat_map word cs) t × AreScalars cs × (length cs ≡ n)) led.0 (k.1, led.1, k.3)

pub chars_spell : (chars : List ℕ) → AreScalars chars → Spells (times push_scalar (length chars) []) (flat_map word chars) chars
chars_spell chars are = times_spell push_scalar word IsChar scalar_spells [] chars chars (chars_lead [] chars are)

-- ---- components

-- the operation with one more component
abbrev pub op_with : Operation ℕ → Run ℕ → Operation ℕ
op_with op (Keep n) = with_retain op n
op_with op (Add s) = with_insert op s
op_with op (Skip n) = with_delete op n

abbrev pub fits_with : ℕ → Operation ℕ → ℕ → Bool
fits_with code op n = nat_le (base_with code op n) 1000000 && nat_le (target_with code op n) 1000000

pub record IsComponent (x : Edited) (r : Run ℕ) (y : Edited) : Type 0 where
  pub follows : may_follow x.last (code_of r) ≡ true
  pub filled : (size_of r == 0) ≡ false
  pub fits : fits_with (code_of r) x.op (size_of r) ≡ true
  pub small : size_of r < 2 ^ 32
  pub scalars : AreScalars (chars_in r)
  pub made : ◌≡◌ {A = Edited} (record { last = code_of r; op = op_with x.op r }) y

code_takes : (last : ℕ) (s : Spot) (code : ℕ) (t : Spot) → IsBytes s.rest → code_at last s ≡ Ok (code, t) → Takes s (code ∷ []) t × (nat_le 16 code && nat_le code 18 ≡ true) × (may_follow last code ≡ true)
unfolding code_at
code_takes last s code t fits e =
    let a = bind_ok (number_at w8 s) (λ n. cond (nat_le 16 n.0 && nat_le n.0 18) (cond (may_follow last n.0) (Ok n) (Err (fault s.at NotNormal))) (Err (fault s.at BadOpcode))) (code, t) e in
    let k = number_takes w8 256 wide8 s a.0.0 a.0.1 fits a.1 in
    let g = two_tests (nat_le 16 a.0.0 && nat_le a.0.0 18) (may_follow last a.0.0) (fault s.at NotNormal) (fault s.at BadOpcode) a.0 (code, t) a.2 in
    let text : Takes s (a.0.0 ∷ []) a.0.1 = rw (byte_is a.0.0 k.1) at k.0 in
    subst (λ (p : ℕ × Spot). Takes s (p.0 ∷ []) p.1 × (nat_le 16 p.0 && nat_le p.0 18 ≡ true) × (may_follow last p.0 ≡ true)) g.2 (text, g.0, g.1)
  where
    two_tests : (b c : Bool) (d f : ImageFault) (x y : ℕ × Spot) → cond b (cond c (Ok x) (Err d)) (Err f) ≡ Ok y → (b ≡ true) × (c ≡ true) × (x ≡ y)
    two_tests true true d f x y e = (refl, refl, cc)
    two_tests true false d f x y e = absurd cc
    two_tests false c d f x y e = absurd cc

length_takes : (code : ℕ) (op : Operation ℕ) (s : Spot) (n : ℕ) (t : Spot) → IsBytes s.rest → length_at code op s ≡ Ok (n, t) → Takes s (word n) t × (n < 2 ^ 32) × ((n == 0) ≡ false) × (fits_with code op n ≡ true)
unfolding length_at
length_takes code op s n t fits e =
    let a = bind_ok (number_at w32 s) (λ k. cond (k.0 == 0) (Err (fault s.at BadNumber)) (cond (fits_with code op k.0) (Ok k) (Err (fault s.at TooLong)))) (n, t) e in
    let k = number_takes w32 (2 ^ 32) wide32 s a.0.0 a.0.1 fits a.1 in
    let g = two_tests (a.0.0 == 0) (fits_with code op a.0.0) (fault s.at BadNumber) (fault s.at TooLong) a.0 (n, t) a.2 in
    subst (λ (p : ℕ × Spot). Takes s (word p.0) p.1 × (p.0 < 2 ^ 32) × ((p.0 == 0) ≡ false) × (fits_with code op p.0 ≡ true)) g.2 (k.0, k.1, g.0, g.1)
  where
    two_tests : (b c : Bool) (d f : ImageFault) (x y : ℕ × Spot) → cond b (Err d) (cond c (Ok x) (Err f)) ≡ Ok y → (b ≡ false) × (c ≡ true) × (x ≡ y)
    two_tests false true d f x y e = (refl, refl, cc)
    two_tests false false d f x y e = absurd cc
    two_tests true c d f x y e = absurd cc

-- the component with this byte and length
record IsFilledAt (code n : ℕ) (op : Operation ℕ) (s : Spot) (y : Edited) (t : Spot) (r : Run ℕ) : Type 0 where
  code_is : code_of r ≡ code
  size_is : size_of r ≡ n
  takes : Takes s (flat_map word (chars_in r)) t
  scalars : AreScalars (chars_in r)
  made : ◌≡◌ {A = Edited} (record { last = code_of r; op = op_with op r }) y

is_insertion : (code : ℕ) → nat_le 16 code && nat_le code 18 ≡ true → (code == 16) ≡ false → (code == 18) ≡ false → code ≡ 17
is_insertion code range a b = grind arith

filled_takes : (code n : ℕ) (op : Operation ℕ) (s : Spot) (y : Edited) (t : Spot) → IsBytes s.rest → nat_le 16 code && nat_le code 18 ≡ true → filled_at code n op s ≡ Ok (y, t) → (r : Run ℕ) × IsFilledAt code n op s y t r
unfolding filled_at
filled_takes code n op s y t fits range e = by (code == 16) (code == 18) refl refl e
  where
    ends : (z : Edited) → ◌≡◌ {A = Result (Edited × Spot) ImageFault} (Ok (z, s)) (Ok (y, t)) → (z ≡ y) × Takes s [] t
    ends z e = let same = ok_is (z, s) (y, t) e in (ap (λ (p : Edited × Spot). p.0) same, subst (λ (u : Spot). Takes s [] u) (ap (λ (p : Edited × Spot). p.1) same) (Takes-nothing s fits))

    by : (a b : Bool) → a ≡ (code == 16) → b ≡ (code == 18)
        → cond {A = Result (Edited × Spot) ImageFault} a (Ok (record { last = 16; op = with_retain op n }, s)) (cond b (Ok (record { last = 18; op = with_delete op n }, s)) (times push_scalar n [] s >>= λ text. Ok (record { last = 17; op = with_insert op text.0 }, text.1))) ≡ Ok (y, t)
        → (r : Run ℕ) × IsFilledAt code n op s y t r
    by true b is other e =
        let k = ends (record { last = 16; op = with_retain op n }) e in
        (Keep n, record { code_is = sym (eqb-true code 16 (sym is)); size_is = refl; takes = k.1; scalars = tt; made = k.0 })
    by false true is other e =
        let k = ends (record { last = 18; op = with_delete op n }) e in
        (Skip n, record { code_is = sym (eqb-true code 18 (sym other)); size_is = refl; takes = k.1; scalars = tt; made = k.0 })
    by false false is other e =
        let a = bind_ok (times push_scalar n [] s) (λ text. Ok (record { last = 17; op = with_insert op text.0 }, text.1)) (y, t) e in
        let k = chars_take n s a.0.0 a.0.1 fits a.1 in
        let same = ok_is (record { last = 17; op = with_insert op a.0.0 }, a.0.1) (y, t) a.2 in (
          Add a.0.0,
          record {
            code_is = sym (is_insertion code range (sym is) (sym other));
            size_is = k.2;
            takes = subst (λ (u : Spot). Takes s (flat_map word a.0.0) u) (ap (λ (p : Edited × Spot). p.1) same) k.0;
            scalars = k.1;
            made = ap (λ (p : Edited × Spot). p.0) same;
          },
        )

component_takes : (x : Edited) (s : Spot) (y : Edited) (t : Spot) → IsBytes s.rest → push_component x s ≡ Ok (y, t) → (r : Run ℕ) × Takes s (component r) t × IsComponent x r y
unfolding push_component
component_takes x s y t fits e =
    let a = bind_ok (code_at x.last s) (λ code. length_at code.0 x.op code.1 >>= λ n. filled_at code.0 n.0 x.op n.1) (y, t) e in
    let b = bind_ok (length_at a.0.0 x.op a.0.1) (λ n. filled_at a.0.0 n.0 x.op n.1) (y, t) a.2 in
    let k0 = code_takes x.last s a.0.0 a.0.1 fits a.1 in
    let k1 = length_takes a.0.0 x.op a.0.1 b.0.0 b.0.1 k0.0.rest_fits b.1 in
    let k2 = filled_takes a.0.0 b.0.0 x.op b.0.1 y t k1.0.rest_fits k0.1 b.2 in
    let r = k2.0 in
    let whole = Takes-then s (a.0.0 ∷ []) a.0.1 (word b.0.0 ++ flat_map word (chars_in r)) t k0.0 (Takes-then a.0.1 (word b.0.0) b.0.1 (flat_map word (chars_in r)) t k1.0 k2.1.takes) in (
      r,
      rw (k2.1.code_is, k2.1.size_is) whole,
      record {
        follows = rw k2.1.code_is k0.2;
        filled = rw k2.1.size_is k1.2;
        fits = rw (k2.1.code_is, k2.1.size_is) k1.3;
        small = rw k2.1.size_is k1.1;
        scalars = k2.1.scalars;
        made = k2.1.made;
      },
    )

-- the other way round
in_codes : (r : Run ℕ) → nat_le 16 (code_of r) && nat_le (code_of r) 18 ≡ true
in_codes (Keep n) = refl
in_codes (Add s) = refl
in_codes (Skip n) = refl

small_code : (r : Run ℕ) → code_of r < 256
small_code (Keep n) = omega arith
small_code (Add s) = omega arith
small_code (Skip n) = omega arith

code_spells : (last : ℕ) (r : Run ℕ) → may_follow last (code_of r) ≡ true → Spells (code_at last) (code_of r ∷ []) (code_of r)
unfolding code_at
code_spells last r follows at rest =
    let byte = subst (λ (b : List ℕ). Spells (number_at w8) b (code_of r)) (byte_is (code_of r) (small_code r)) (number_spells w8 256 wide8 (code_of r) (small_code r)) at rest in
    rw (byte, in_codes r, follows) refl

length_spells : (code n : ℕ) (op : Operation ℕ) → n < 2 ^ 32 → (n == 0) ≡ false → fits_with code op n ≡ true → Spells (length_at code op) (word n) n
unfolding length_at
length_spells code n op small filled fits at rest = rw (number_spells w32 (2 ^ 32) wide32 n small at rest, filled, fits) refl

filled_spells : (op : Operation ℕ) (r : Run ℕ) → AreScalars (chars_in r) → Spells (filled_at (code_of r) (size_of r) op) (flat_map word (chars_in r)) (record { last = code_of r; op = op_with op r })
unfolding filled_at
filled_spells op (Keep n) are = Spells-nothing (record { last = 16; op = with_retain op n })
filled_spells op (Add s) are = Spells-map (times push_scalar (length s) []) (λ text. record { last = 17; op = with_insert op text }) s (flat_map word s) (chars_spell s are)
filled_spells op (Skip n) are = Spells-nothing (record { last = 18; op = with_delete op n })

component_spells : (x : Edited) (r : Run ℕ) (y : Edited) → IsComponent x r y → Spells (push_component x) (component r) y
unfolding push_component
component_spells x r y is =
    subst (λ (z : Edited). Spells (push_component x) (component r) z) is.made
    (Spells-then (code_at x.last) (λ code. length_at code.0 x.op code.1 >>= λ n. filled_at code.0 n.0 x.op n.1) (code_of r) _ (code_of r ∷ []) (word (size_of r) ++ flat_map word (chars_in r)) (code_spells x.last r is.follows)
    (Spells-then (length_at (code_of r) x.op) (λ n. filled_at (code_of r) n.0 x.op n.1) (size_of r) _ (word (size_of r)) (flat_map word (chars_in r)) (length_spells (code_of r) (size_of r) x.op is.small is.filled is.fits) (filled_spells x.op r is.scalars)))

abbrev pub ComponentsLead : Edited → List (Run ℕ) → Edited → Type 0
ComponentsLead = Leads push_component component IsComponent

pub components_take : (n : ℕ) (x : Edited) (s : Spot) (y : Edited) (t : Spot) → IsBytes s.rest → times push_component n x s ≡ Ok (y, t) → (rs : List (Run ℕ)) × Takes s (flat_map component rs) t × ComponentsLead x rs y × (length rs ≡ n)
components_take = times_take push_component component IsComponent component_takes

pub components_spell : (x : Edited) (rs : List (Run ℕ)) (y : Edited) → ComponentsLead x rs y → Spells (times push_component (length rs) x) (flat_map component rs) y
components_spell = times_spell push_component component IsComponent component_spells
