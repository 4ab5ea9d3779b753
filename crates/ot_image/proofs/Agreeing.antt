-- With its names forgotten, each field is that of the layout: the first one that is refused has the layout's fault.
use Rattle.std.proofs.Common.{◌≡◌, ◌∙◌, ℕ, zero, suc, ◌+◌, ◌==◌, ◌&&◌, nat_le, nat_lt, Bool, true, false, cond, List, length, take, refl, ap, Ok, Err}
use Rattle.std.specs.Prelude.{Option, Some, None, option_map, if◌then◌else◌}
use Rattle.std.specs.Int.{Width, w8, w16, w32, byte_len, from_be_bytes}
use Rattle.std.specs.Str.{bytes_eq}
use Rattle.std.proofs.Math.Utf8.{scalar}
use Rattle.ot_image.specs.declared.fault.Kind.{Kind}
use Rattle.ot_image.specs.declared.fault.Kind.TheVariants.{Cut, BadMagic, Trailing, BadNumber, TooLong, TooMany, BadScalar, BadOpcode, BadClient, NotNormal}
use Rattle.ot_image.specs.Reading.{Spot, fault, past, magic1, magic2, may_follow}
use Rattle.ot_image.specs.Reading.{cut as cut_fault}
use Rattle.ot_image.specs.Layout as layout
use Rattle.ot_image.specs.Layout.{Layout, first_fault, code_fault, length_fault, base_after, target_after, is_front, fault_of}
use Rattle.ot_image.specs.declared.refusal.Place.{Place}
use Rattle.ot_image.specs.declared.refusal.Place.TheVariants as place
use Rattle.ot_image.specs.declared.refusal.Text.{Text}
use Rattle.ot_image.specs.declared.refusal.Text.TheVariants.{Start, Insertion}
use Rattle.ot_image.specs.declared.refusal.Wanted.{Wanted}
use Rattle.ot_image.specs.declared.refusal.Wanted.TheVariants as wanted
use Rattle.ot_image.specs.declared.shape.Shape.{Shape}
use Rattle.ot_image.specs.Fields.{Objection, objection, Named, End, Field, first_refusal, number_at, allowed, checked, cut, trailing, magic_cut, no_magic, fault_in, any, is_scalar, characters, kind_objection, length_objection, longest, longer, inserted, components, no_shape, operation, instr_objection, client_objection, operands, instructions, clients_objection, present_objection, start_objection, instrs_objection, present, start, body, after_magic, refusal_of}

-- the fields that are still to come have the same first fault
abbrev Same : Named → Layout → Type 0
Same named plain = (s : Spot) → fault_in (first_refusal named s) ≡ first_fault plain s

abbrev kind_in : Option Objection → Option Kind
kind_in o = option_map (λ k. k.kind) o

-- ---- one field

same_field : (place : Place) (width : Width) (objects : ℕ → Option Objection) (next : ℕ → Named) (kinds : ℕ → Option Kind) (plain : ℕ → Layout)
    → ((n : ℕ) → kind_in (objects n) ≡ kinds n) → ((n : ℕ) → Same (next n) (plain n)) → Same (Field place width objects next) (layout.Field width kinds plain)
unfolding first_refusal number_at first_fault
same_field place width objects next kinds plain same on s = by (nat_lt (length s.rest) (byte_len width))
  where
    value : ℕ
    value = from_be_bytes width (take (byte_len width) s.rest)

    after : Spot
    after = past (byte_len width) s

    passed : (o : Option Objection) → fault_in (elim (allowed place s o (value, after)) [ Ok n ↦ first_refusal (next n.0) n.1 | Err r ↦ Some r ]) ≡ elim (kind_in o) [ Some kind ↦ Some (fault s.at kind) | None ↦ first_fault (plain value) after ]
    passed (Some o) = refl
    passed None = on value after

    by : (b : Bool) → fault_in (elim (checked place objects s (cond b (Err (cut place width s)) (Ok (value, after)))) [ Ok n ↦ first_refusal (next n.0) n.1 | Err r ↦ Some r ])
        ≡ cond b (Some (cut_fault s)) (elim (kinds value) [ Some kind ↦ Some (fault s.at kind) | None ↦ first_fault (plain value) after ])
    by true = refl
    by false = passed (objects value) ∙ ap (λ (k : Option Kind). elim k [ Some kind ↦ Some (fault s.at kind) | None ↦ first_fault (plain value) after ]) (same value)

same_unless : (b : Bool) (kind : Kind) (wanted : Wanted) → kind_in (cond b None (objection kind wanted)) ≡ cond b None (Some kind)
same_unless true kind wanted = refl
same_unless false kind wanted = refl

-- ---- operations

same_characters : (text : Text) (k n : ℕ) (after : Named) (plain : Layout) → Same after plain → Same (characters text k n after) (layout.characters n plain)
unfolding characters layout.characters
same_characters text k zero after plain on = on
same_characters text k (suc n) after plain on =
    same_field (place.Character text k) w32 is_scalar (λ c. characters text (k + 1) n after) (layout.unless scalar BadScalar) (λ c. layout.characters n plain)
    (λ c. same_unless (scalar c) BadScalar wanted.Scalar) (λ c. same_characters text (k + 1) n after plain on)

same_kind : (last code : ℕ) → kind_in (kind_objection last code) ≡ code_fault last code
same_kind last code = by (nat_le 16 code && nat_le code 18) (may_follow last code)
  where
    by : (b c : Bool) → kind_in (cond b (cond c None (objection NotNormal (wanted.NotBehind last code))) (objection BadOpcode wanted.Component)) ≡ cond b (cond c None (Some NotNormal)) (Some BadOpcode)
    by true true = refl
    by true false = refl
    by false c = refl

same_length : (code : ℕ) (shape : Shape) (n : ℕ) → kind_in (length_objection code shape n) ≡ length_fault code shape.base shape.target n
same_length code shape n = by (n == 0) (nat_le (base_after code shape.base n) 1000000 && nat_le (target_after code shape.target n) 1000000)
  where
    by : (b c : Bool) → kind_in (cond b (objection BadNumber wanted.NotZero) (cond c None (objection TooLong (longest code shape)))) ≡ cond b (Some BadNumber) (cond c None (Some TooLong))
    by true c = refl
    by false true = refl
    by false false = refl

same_inserted : (instr k code n : ℕ) (after : Named) (plain : Layout) → Same after plain → Same (inserted instr k code n after) (layout.text code n plain)
same_inserted instr k code n after plain on = by (code == 17)
  where
    by : (b : Bool) → Same (cond b (characters (Insertion instr k) 0 n after) after) (cond b (layout.characters n plain) plain)
    by true = same_characters (Insertion instr k) 0 n after plain on
    by false = on

same_components : (instr k n : ℕ) (shape : Shape) (after : Named) (plain : Layout) → Same after plain → Same (components instr k n shape after) (layout.components n shape.last shape.base shape.target plain)
unfolding components layout.components
same_components instr k zero shape after plain on = on
same_components instr k (suc n) shape after plain on =
    same_field (place.ComponentKind instr k) w8 (kind_objection shape.last) (λ code. Field (place.ComponentLength instr k) w32 (length_objection code shape) (λ size. inserted instr k code size (row code size)))
    (code_fault shape.last) (λ code. layout.Field w32 (length_fault code shape.base shape.target) (λ size. layout.text code size (plain_row code size))) (same_kind shape.last)
    (λ code.
    same_field (place.ComponentLength instr k) w32 (length_objection code shape) (λ size. inserted instr k code size (row code size))
    (length_fault code shape.base shape.target) (λ size. layout.text code size (plain_row code size)) (same_length code shape)
    (λ size. same_inserted instr k code size (row code size) (plain_row code size) (same_components instr (k + 1) n (longer code shape size) after plain on)))
  where
    row : ℕ → ℕ → Named
    row code size = components instr (k + 1) n (longer code shape size) after

    plain_row : ℕ → ℕ → Layout
    plain_row code size = layout.components n code (base_after code shape.base size) (target_after code shape.target size) plain

same_operation : (instr : ℕ) (after : Named) (plain : Layout) → Same after plain → Same (operation instr after) (layout.operation plain)
same_operation instr after plain on =
    same_field (place.ComponentCount instr) w32 any (λ count. components instr 0 count no_shape after) layout.any (λ count. layout.components count 0 0 0 plain) (λ n. refl)
    (λ count. same_components instr 0 count no_shape after plain on)

-- ---- instructions

same_operands : (clients instr code : ℕ) (after : Named) (plain : Layout) → Same after plain
    → Same (operands clients instr code after) (if code == 6 then plain else layout.Field w16 (layout.unless (λ client. nat_lt client clients) BadClient) (λ client. if code == 1 then layout.operation plain else plain))
same_operands clients instr code after plain on = by (code == 6)
  where
    edit : (b : Bool) → Same (cond b (operation instr after) after) (cond b (layout.operation plain) plain)
    edit true = same_operation instr after plain on
    edit false = on

    by : (b : Bool) → Same (cond b after (Field (place.Client instr) w16 (client_objection clients) (λ client. if code == 1 then operation instr after else after)))
        (cond b plain (layout.Field w16 (layout.unless (λ client. nat_lt client clients) BadClient) (λ client. if code == 1 then layout.operation plain else plain)))
    by true = on
    by false =
        same_field (place.Client instr) w16 (client_objection clients) (λ client. if code == 1 then operation instr after else after)
        (layout.unless (λ client. nat_lt client clients) BadClient) (λ client. if code == 1 then layout.operation plain else plain)
        (λ client. same_unless (nat_lt client clients) BadClient _) (λ client. edit (code == 1))

same_end : Same End layout.End
unfolding first_refusal first_fault
same_end s = by (length s.rest == 0)
  where
    by : (b : Bool) → fault_in (cond b None (Some (trailing s))) ≡ cond b None (Some (fault s.at Trailing))
    by true = refl
    by false = refl

same_instructions : (version clients instr n : ℕ) → Same (instructions version clients instr n End) (layout.instructions version clients n)
unfolding instructions layout.instructions
same_instructions version clients instr zero = same_end
same_instructions version clients instr (suc n) =
    same_field (place.InstrKind instr) w8 (instr_objection version) (λ code. operands clients instr code (instructions version clients (instr + 1) n End))
    (layout.unless (λ code. nat_le 1 code && nat_le code (5 + version)) BadOpcode)
    (λ code. if code == 6 then layout.instructions version clients n else layout.Field w16 (layout.unless (λ client. nat_lt client clients) BadClient) (λ client. if code == 1 then layout.operation (layout.instructions version clients n) else layout.instructions version clients n))
    (λ code. same_unless (nat_le 1 code && nat_le code (5 + version)) BadOpcode _)
    (λ code. same_operands clients instr code _ _ (same_instructions version clients (instr + 1) n))

-- ---- the whole

same_body : (version clients : ℕ) → Same (body version clients) (layout.Field w32 (layout.unless (λ n. nat_le n 100000) TooMany) (λ instrs. layout.instructions version clients instrs))
same_body version clients =
    same_field place.InstrCount w32 instrs_objection (λ count. instructions version clients 0 count End) (layout.unless (λ n. nat_le n 100000) TooMany) (λ instrs. layout.instructions version clients instrs)
    (λ n. same_unless (nat_le n 100000) TooMany _) (λ n. same_instructions version clients 0 n)

same_start : (after : Named) (plain : Layout) → Same after plain → Same (start after) (layout.Field w32 (layout.unless (λ n. nat_le n 40000) TooLong) (λ count. layout.characters count plain))
same_start after plain on =
    same_field place.StartCount w32 start_objection (λ count. characters Start 0 count after) (layout.unless (λ n. nat_le n 40000) TooLong) (λ count. layout.characters count plain)
    (λ n. same_unless (nat_le n 40000) TooLong _) (λ n. same_characters Start 0 n after plain on)

same_present : (version clients : ℕ) (after : Named) (plain : Layout) → Same after plain → Same (present version clients after) (layout.present version clients plain)
same_present version clients after plain on = by (version == 1)
  where
    by : (b : Bool) → Same (cond b after (Field place.Present w16 (present_objection clients) (λ n. after))) (cond b plain (layout.Field w16 (layout.unless (λ n. nat_le n clients) BadNumber) (λ n. plain)))
    by true = on
    by false = same_field place.Present w16 (present_objection clients) (λ n. after) (layout.unless (λ n. nat_le n clients) BadNumber) (λ n. plain) (λ n. same_unless (nat_le n clients) BadNumber _) (λ n. on)

same_after_magic : (version : ℕ) → Same (after_magic version) (layout.after_magic version)
unfolding after_magic layout.after_magic
same_after_magic version =
    same_field place.Clients w16 clients_objection (λ clients. present version clients (start (body version clients))) (layout.unless (λ n. nat_le 1 n && nat_le n 64) BadNumber)
    (λ clients. layout.present version clients (layout.Field w32 (layout.unless (λ n. nat_le n 40000) TooLong) (λ count. layout.characters count (layout.Field w32 (layout.unless (λ n. nat_le n 100000) TooMany) (λ instrs. layout.instructions version clients instrs)))))
    (λ n. same_unless (nat_le 1 n && nat_le n 64) BadNumber _)
    (λ clients. same_present version clients _ _ (same_start _ _ (same_body version clients)))

pub refusals_agree : (bytes : List ℕ) → fault_in (refusal_of bytes) ≡ fault_of bytes
unfolding refusal_of fault_of
refusals_agree bytes = by (bytes_eq (take 4 bytes) magic1) (bytes_eq (take 4 bytes) magic2) (is_front bytes)
  where
    s : Spot
    s = past 4 (record { at = 0; rest = bytes })

    by : (a b c : Bool) → fault_in (cond a (first_refusal (after_magic 1) s) (cond b (first_refusal (after_magic 2) s) (cond c (Some (magic_cut (length bytes))) (Some no_magic))))
        ≡ cond a (first_fault (layout.after_magic 1) s) (cond b (first_fault (layout.after_magic 2) s) (cond c (Some (fault (length bytes) Cut)) (Some (fault 0 BadMagic))))
    by true b c = same_after_magic 1 s
    by false true c = same_after_magic 2 s
    by false false true = refl
    by false false false = refl
