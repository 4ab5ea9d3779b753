-- One step of reading.
use Rattle.std.proofs.Common.{◌≡◌, ◌∙◌, ℕ, suc, ◌+◌, ◌-◌, ◌<◌, ◌≤◌, ◌==◌, Bool, true, false, cond, List, length, take, refl, ap, arith, Result, Ok, Err}
use Rattle.std.specs.Prelude.{Option, Some, None, if◌then◌else◌}
use Rattle.std.specs.Str.{bytes_eq}
use Rattle.std.proofs.lemmas.Bool.{eqb-true}
use Rattle.std.proofs.lemmas.List.{length-take}
use Rattle.std.proofs.lemmas.Slice.Eq.{bytes_eq-Decides}
use Rattle.std.specs.Int.{Width, w8, w16, w32}
use Rattle.ot_image.specs.Layout.{is_front}
use Rattle.ot_image.specs.Reading.{Spot, magic1, magic2}
use Rattle.ot_image.specs.declared.refusal.Place.{Place}
use Rattle.ot_image.specs.declared.refusal.Place.TheVariants as place
use Rattle.ot_image.specs.declared.refusal.Refusal.{Refusal}
use Rattle.ot_image.specs.declared.refusal.Text.{Text}
use Rattle.ot_image.specs.declared.refusal.Text.TheVariants.{Insertion}
use Rattle.ot_image.specs.declared.shape.Shape.{Shape}
use Rattle.ot_image.specs.Fields.{Objection, Named, End, Field, after_magic, any, body, characters, client_objection, clients_objection, component, components, field_at, first_refusal, inserted, instruction, instructions, is_scalar, kind_objection, length_objection, longer, magic_cut, no_magic, number_at, operands, operation, present, present_objection, refusal_of, start, trailing}
use Rattle.ot_image.specs.Reads.{Ends, Passes}

pub field_ok : (place : Place) (width : Width) (objects : ℕ → Option Objection) (next : ℕ → Named) (s : Spot) (n : ℕ) (t : Spot)
    → field_at place width objects s ≡ Ok (n, t) → first_refusal (Field place width objects next) s ≡ first_refusal (next n) t
unfolding first_refusal
field_ok place width objects next s n t e = let step : Result (ℕ × Spot) Refusal → Option Refusal = λ r. elim r [ Ok n ↦ first_refusal (next n.0) n.1 | Err f ↦ Some f ] in ap step e

pub field_err : (place : Place) (width : Width) (objects : ℕ → Option Objection) (next : ℕ → Named) (s : Spot) (r : Refusal)
    → field_at place width objects s ≡ Err r → first_refusal (Field place width objects next) s ≡ Some r
unfolding first_refusal
field_err place width objects next s r e = let step : Result (ℕ × Spot) Refusal → Option Refusal = λ r. elim r [ Ok n ↦ first_refusal (next n.0) n.1 | Err f ↦ Some f ] in ap step e

-- a field whose values are all allowed
pub any_ok : (place : Place) (width : Width) (s : Spot) (n : ℕ) (t : Spot) → number_at place width s ≡ Ok (n, t) → field_at place width any s ≡ Ok (n, t)
any_ok place width s n t e = rw e refl

pub any_err : (place : Place) (width : Width) (s : Spot) (r : Refusal) → number_at place width s ≡ Err r → field_at place width any s ≡ Err r
any_err place width s r e = rw e refl

-- ---- behind fields that were read

pub passes_on : {R : Type 0} (view : R → Spot) (first others : Named → Named) (s t : Spot) (r : Result R Refusal)
    → ((after : Named) → first_refusal (first after) s ≡ first_refusal (others after) t) → Passes view others t r → Passes view first s r
passes_on view first others s t (Ok x) on passes = λ after. on after ∙ passes after
passes_on view first others s t (Err r) on passes = λ after. on after ∙ passes after

pub ends_on : {R : Type 0} (first others : Named) (s t : Spot) (r : Result R Refusal) → first_refusal first s ≡ first_refusal others t → Ends others t r → Ends first s r
ends_on first others s t (Ok x) on ends = on ∙ ends
ends_on first others s t (Err r) on ends = on ∙ ends

pub end_ok : (s : Spot) → length s.rest ≡ 0 → first_refusal End s ≡ None
unfolding first_refusal
end_ok s e = rw e refl

pub end_err : (s : Spot) → (length s.rest ≡ 0 → ⊥) → first_refusal End s ≡ Some (trailing s)
unfolding first_refusal
end_err s more = by (length s.rest == 0) refl
  where
    by : (b : Bool) → (length s.rest == 0) ≡ b → cond b None (Some (trailing s)) ≡ Some (trailing s)
    by true e = absurd (more (eqb-true (length s.rest) 0 e))
    by false e = refl

-- ---- a component

pub same_shape : (last b c d e : ℕ) → b ≡ d → c ≡ e → ◌≡◌ {A = Shape} (record { last = last; base = b; target = c }) (record { last = last; base = d; target = e })
same_shape last b c d e p q = rw (p, q) refl

pub inserted_text : (instr k code n : ℕ) → code ≡ 17 → (after : Named) → inserted instr k code n after ≡ characters (Insertion instr k) 0 n after
inserted_text instr k code n e after = rw e refl

pub inserted_nothing : (instr k code n : ℕ) → (code ≡ 17 → ⊥) → (after : Named) → inserted instr k code n after ≡ after
inserted_nothing instr k code n other after = by (code == 17) refl
  where
    by : (b : Bool) → (code == 17) ≡ b → cond b (characters (Insertion instr k) 0 n after) after ≡ after
    by true e = absurd (other (eqb-true code 17 e))
    by false e = refl

abbrev length_field : ℕ → ℕ → Shape → (Shape → Named) → ℕ → Named
length_field instr k shape next code = Field (place.ComponentLength instr k) w32 (length_objection code shape) (λ size. inserted instr k code size (next (longer code shape size)))

pub component_kind_err : (instr k : ℕ) (shape : Shape) (s : Spot) (r : Refusal) → field_at (place.ComponentKind instr k) w8 (kind_objection shape.last) s ≡ Err r
    → (next : Shape → Named) → first_refusal (component instr k shape next) s ≡ Some r
component_kind_err instr k shape s r e next = field_err (place.ComponentKind instr k) w8 (kind_objection shape.last) (length_field instr k shape next) s r e

pub component_length_err : (instr k : ℕ) (shape : Shape) (s t : Spot) (code : ℕ) (r : Refusal) → field_at (place.ComponentKind instr k) w8 (kind_objection shape.last) s ≡ Ok (code, t)
    → field_at (place.ComponentLength instr k) w32 (length_objection code shape) t ≡ Err r
    → (next : Shape → Named) → first_refusal (component instr k shape next) s ≡ Some r
component_length_err instr k shape s t code r e f next =
    field_ok (place.ComponentKind instr k) w8 (kind_objection shape.last) (length_field instr k shape next) s code t e
    ∙ field_err (place.ComponentLength instr k) w32 (length_objection code shape) (λ size. inserted instr k code size (next (longer code shape size))) t r f

pub component_ok : (instr k : ℕ) (shape : Shape) (s t u : Spot) (code size : ℕ) → field_at (place.ComponentKind instr k) w8 (kind_objection shape.last) s ≡ Ok (code, t)
    → field_at (place.ComponentLength instr k) w32 (length_objection code shape) t ≡ Ok (size, u)
    → (next : Shape → Named) → first_refusal (component instr k shape next) s ≡ first_refusal (inserted instr k code size (next (longer code shape size))) u
component_ok instr k shape s t u code size e f next =
    field_ok (place.ComponentKind instr k) w8 (kind_objection shape.last) (length_field instr k shape next) s code t e
    ∙ field_ok (place.ComponentLength instr k) w32 (length_objection code shape) (λ size. inserted instr k code size (next (longer code shape size))) t size u f

-- ---- an instruction

pub operands_field : (clients instr code : ℕ) → (code ≡ 6 → ⊥) → (after : Named)
    → operands clients instr code after ≡ Field (place.Client instr) w16 (client_objection clients) (λ client. if code == 1 then operation instr after else after)
operands_field clients instr code other after = by (code == 6) refl
  where
    by : (b : Bool) → (code == 6) ≡ b → cond b after (Field (place.Client instr) w16 (client_objection clients) (λ client. if code == 1 then operation instr after else after))
        ≡ Field (place.Client instr) w16 (client_objection clients) (λ client. if code == 1 then operation instr after else after)
    by true e = absurd (other (eqb-true code 6 e))
    by false e = refl

pub of_edit : (instr code : ℕ) → code ≡ 1 → (after : Named) → (if code == 1 then operation instr after else after) ≡ operation instr after
of_edit instr code e after = rw e refl

pub of_another : (instr code : ℕ) → (code ≡ 1 → ⊥) → (after : Named) → (if code == 1 then operation instr after else after) ≡ after
of_another instr code other after = by (code == 1) refl
  where
    by : (b : Bool) → (code == 1) ≡ b → cond b (operation instr after) after ≡ after
    by true e = absurd (other (eqb-true code 1 e))
    by false e = refl

-- ---- the whole

pub present_field : (version clients : ℕ) → (version ≡ 1 → ⊥) → (after : Named) → present version clients after ≡ Field place.Present w16 (present_objection clients) (λ n. after)
present_field version clients other after = by (version == 1) refl
  where
    by : (b : Bool) → (version == 1) ≡ b → cond b after (Field place.Present w16 (present_objection clients) (λ n. after)) ≡ Field place.Present w16 (present_objection clients) (λ n. after)
    by true e = absurd (other (eqb-true version 1 e))
    by false e = refl

pub clients_ok : (version : ℕ) (s t : Spot) (clients : ℕ) → field_at place.Clients w16 clients_objection s ≡ Ok (clients, t)
    → first_refusal (after_magic version) s ≡ first_refusal (present version clients (start (body version clients))) t
unfolding after_magic
clients_ok version s t clients e = field_ok place.Clients w16 clients_objection (λ n. present version n (start (body version n))) s clients t e

pub clients_err : (version : ℕ) (s : Spot) (r : Refusal) → field_at place.Clients w16 clients_objection s ≡ Err r → first_refusal (after_magic version) s ≡ Some r
unfolding after_magic
clients_err version s r e = field_err place.Clients w16 clients_objection (λ n. present version n (start (body version n))) s r e

-- fewer bytes than a magic are none
short_is_none : (bytes magic : List ℕ) → length bytes < 4 → length magic ≡ 4 → (b : Bool) → bytes_eq (take 4 bytes) magic ≡ b → b ≡ false
short_is_none bytes magic few len true is = absurd (let same = ap length ((bytes_eq-Decides (take 4 bytes) magic).0 is) in omega (arith, few, len, same, length-take 4 bytes))
short_is_none bytes magic few len false is = refl

pub short_refusal : (bytes : List ℕ) → length bytes < 4 → refusal_of bytes ≡ Some (if is_front bytes then magic_cut (length bytes) else no_magic)
unfolding refusal_of
short_refusal bytes few = rw (short_is_none bytes magic1 few refl (bytes_eq (take 4 bytes) magic1) refl, short_is_none bytes magic2 few refl (bytes_eq (take 4 bytes) magic2) refl) (by (is_front bytes))
  where
    by : (b : Bool) → cond b (Some (magic_cut (length bytes))) (Some no_magic) ≡ Some (cond b (magic_cut (length bytes)) no_magic)
    by true = refl
    by false = refl

-- ---- so many of them

one_less : (count k : ℕ) → k < count → count - k ≡ suc (count - (k + 1))
one_less count k lt = omega arith

none_left : (count k : ℕ) → count ≤ k → count - k ≡ 0
none_left count k done = omega arith

pub characters_more : (text : Text) (count k : ℕ) (after : Named) → k < count
    → characters text k (count - k) after ≡ Field (place.Character text k) w32 is_scalar (λ c. characters text (k + 1) (count - (k + 1)) after)
unfolding characters
characters_more text count k after lt = rw (one_less count k lt) refl

pub characters_done : (text : Text) (count k : ℕ) (after : Named) → count ≤ k → characters text k (count - k) after ≡ after
unfolding characters
characters_done text count k after done = rw (none_left count k done) refl

pub components_more : (instr count k : ℕ) (shape : Shape) (after : Named) → k < count
    → components instr k (count - k) shape after ≡ component instr k shape (λ more. components instr (k + 1) (count - (k + 1)) more after)
unfolding components
components_more instr count k shape after lt = rw (one_less count k lt) refl

pub components_done : (instr count k : ℕ) (shape : Shape) (after : Named) → count ≤ k → components instr k (count - k) shape after ≡ after
unfolding components
components_done instr count k shape after done = rw (none_left count k done) refl

pub instructions_more : (version clients count k : ℕ) (after : Named) → k < count
    → instructions version clients k (count - k) after ≡ instruction version clients k (instructions version clients (k + 1) (count - (k + 1)) after)
unfolding instructions
instructions_more version clients count k after lt = rw (one_less count k lt) refl

pub instructions_done : (version clients count k : ℕ) (after : Named) → count ≤ k → instructions version clients k (count - k) after ≡ after
unfolding instructions
instructions_done version clients count k after done = rw (none_left count k done) refl
