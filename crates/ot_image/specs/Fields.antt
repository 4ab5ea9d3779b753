-- An image as its fields with their names, and the first one that is refused: the fields of `Layout` of ot_image, each with its place and
-- with what is wanted there.
use Rattle.std.specs.Prelude.{◌≡◌, ℕ, zero, suc, ◌+◌, ◌-◌, List, length, take, Option, Some, None, option_map, Result, Ok, Err, nat_lt, nat_le, ◌==◌, ◌&&◌, ◌||◌, Bool, if◌then◌else◌}
use Rattle.std.specs.Int.{Width, w8, w16, w32, byte_len, from_be_bytes}
use Rattle.std.specs.Str.{bytes_eq}
use Rattle.std.proofs.Math.Utf8.{scalar}
use Rattle.ot_image.specs.declared.fault.ImageFault.{ImageFault}
use Rattle.ot_image.specs.declared.fault.Kind.{Kind}
use Rattle.ot_image.specs.declared.fault.Kind.TheVariants as kind
use Rattle.ot_image.specs.Reading.{Spot, fault, past, magic1, magic2, may_follow}
use Rattle.ot_image.specs.Reading.{cut as cut_fault}
use Rattle.ot_image.specs.Layout.{base_after, target_after, is_front, fault_of}
use Rattle.ot_isa.specs.declared.builder.TheConstants.{CLIENT_LIMIT, INSTR_LIMIT, START_LIMIT}
use Rattle.ot_operation.specs.declared.TheConstants.{LIMIT}
use Rattle.ot_image.specs.declared.refusal.Place.{Place}
use Rattle.ot_image.specs.declared.refusal.Place.TheVariants as place
use Rattle.ot_image.specs.declared.refusal.Reason.TheVariants as reason
use Rattle.ot_image.specs.declared.refusal.Refusal.{Refusal}
use Rattle.ot_image.specs.declared.refusal.Text.{Text}
use Rattle.ot_image.specs.declared.refusal.Text.TheVariants.{Start, Insertion}
use Rattle.ot_image.specs.declared.refusal.Wanted.{Wanted}
use Rattle.ot_image.specs.declared.refusal.Wanted.TheVariants as wanted
use Rattle.ot_image.specs.declared.shape.Shape.{Shape}

-- why a value is not allowed: the fault's kind, and what is wanted
pub record Objection : Type 0 where
  pub kind : Kind
  pub wanted : Wanted

abbrev pub objection : Kind → Wanted → Option Objection
objection kind wanted = Some (record { kind = kind; wanted = wanted })

-- the fields of an image that are still to come
pub data Named : Type 0 where
  -- none, and no byte either
  End : Named
  -- at this place a number of so many bytes; why a value is not allowed there; and what comes after each value
  Field : Place → Width → (ℕ → Option Objection) → (ℕ → Named) → Named

-- ---- the first field that is refused

-- the bytes end within the field, which has so many
abbrev pub cut_of : Place → ℕ → Spot → Refusal
cut_of place size s = record { fault = cut_fault s; place = place; reason = reason.Cut (length s.rest) size }

abbrev pub cut : Place → Width → Spot → Refusal
cut place width s = cut_of place (byte_len width) s

-- the value that stands there is not allowed
abbrev pub refused : Place → Spot → ℕ → Objection → Refusal
refused place s value o = record { fault = fault s.at o.kind; place = place; reason = reason.Value value o.wanted }

-- bytes follow the last instruction
abbrev pub trailing : Spot → Refusal
trailing s = record { fault = fault s.at kind.Trailing; place = place.End; reason = reason.Trailing (length s.rest) }

-- the number that stands there, and the place after it
unfoldable pub number_at : Place → Width → Spot → Result (ℕ × Spot) Refusal
number_at place width s =
    if nat_lt (length s.rest) (byte_len width) then Err (cut place width s) else Ok (from_be_bytes width (take (byte_len width) s.rest), past (byte_len width) s)

abbrev pub allowed : Place → Spot → Option Objection → ℕ × Spot → Result (ℕ × Spot) Refusal
allowed place s None n = Ok n
allowed place s (Some o) n = Err (refused place s n.0 o)

abbrev pub checked : Place → (ℕ → Option Objection) → Spot → Result (ℕ × Spot) Refusal → Result (ℕ × Spot) Refusal
checked place objects s (Ok n) = allowed place s (objects n.0) n
checked place objects s (Err r) = Err r

-- the same of a number that is allowed
abbrev pub field_at : Place → Width → (ℕ → Option Objection) → Spot → Result (ℕ × Spot) Refusal
field_at place width objects s = checked place objects s (number_at place width s)

-- the first field from the left that is cut, or whose value is not allowed; or bytes after the last one
unfoldable pub first_refusal : Named → Spot → Option Refusal
first_refusal End s = if length s.rest == 0 then None else Some (trailing s)
first_refusal (Field place width objects next) s =
    elim (field_at place width objects s) [
      | Ok n ↦ first_refusal (next n.0) n.1
      | Err r ↦ Some r
    ]

-- ---- characters

-- all other values are refused so
abbrev pub unless : (ℕ → Bool) → Kind → Wanted → ℕ → Option Objection
unless test kind wanted value = if test value then None else objection kind wanted

abbrev pub any : ℕ → Option Objection
any value = None

abbrev pub is_scalar : ℕ → Option Objection
is_scalar = unless scalar kind.BadScalar wanted.Scalar

-- so many characters, the first of which has this number
unfoldable pub characters : Text → ℕ → ℕ → Named → Named
characters text k zero after = after
characters text k (suc n) after = Field (place.Character text k) w32 is_scalar (λ c. characters text (k + 1) n after)

-- ---- operations

-- a component's byte, after one of the kind `last`, or 0
abbrev pub kind_objection : ℕ → ℕ → Option Objection
kind_objection last code =
    if nat_le 16 code && nat_le code 18 then (if may_follow last code then None else objection kind.NotNormal (wanted.NotBehind last code))
    else objection kind.BadOpcode wanted.Component

-- the base length bounds a component of this kind, and no less than the target length does
abbrev pub is_within_base : ℕ → Shape → Bool
is_within_base code shape = code == 18 || code == 16 && nat_le shape.target shape.base

-- the greatest length with which both lengths keep their limit
abbrev pub longest : ℕ → Shape → Wanted
longest code shape = if is_within_base code shape then wanted.WithinBase (LIMIT - shape.base) else wanted.WithinTarget (LIMIT - shape.target)

-- a component's length
abbrev pub length_objection : ℕ → Shape → ℕ → Option Objection
length_objection code shape n =
    if n == 0 then objection kind.BadNumber wanted.NotZero else
    (if nat_le (base_after code shape.base n) LIMIT && nat_le (target_after code shape.target n) LIMIT then None else objection kind.TooLong (longest code shape))

-- the operation with so long a component of this kind more
abbrev pub longer : ℕ → Shape → ℕ → Shape
longer code shape n = record { last = code; base = base_after code shape.base n; target = target_after code shape.target n }

-- the characters of an insertion; a retain and a deletion have none
abbrev pub inserted : ℕ → ℕ → ℕ → ℕ → Named → Named
inserted instr k code n after = if code == 17 then characters (Insertion instr k) 0 n after else after

-- a component of the operation of this instruction, behind those that make this shape; and what comes after each shape
abbrev pub component : ℕ → ℕ → Shape → (Shape → Named) → Named
component instr k shape next =
    Field (place.ComponentKind instr k) w8 (kind_objection shape.last) λ code.
    Field (place.ComponentLength instr k) w32 (length_objection code shape) λ size.
    inserted instr k code size (next (longer code shape size))

-- so many components, the first of which has this number
unfoldable pub components : ℕ → ℕ → ℕ → Shape → Named → Named
components instr k zero shape after = after
components instr k (suc n) shape after = component instr k shape (λ more. components instr (k + 1) n more after)

abbrev pub no_shape : Shape
no_shape = record { last = 0; base = 0; target = 0 }

abbrev pub operation : ℕ → Named → Named
operation instr after = Field (place.ComponentCount instr) w32 any (λ count. components instr 0 count no_shape after)

-- ---- instructions

abbrev pub instr_objection : ℕ → ℕ → Option Objection
instr_objection version = unless (λ code. nat_le 1 code && nat_le code (5 + version)) kind.BadOpcode (wanted.Instr version)

abbrev pub client_objection : ℕ → ℕ → Option Objection
client_objection clients = unless (λ client. nat_lt client clients) kind.BadClient (wanted.Number (clients - 1))

-- what follows an instruction's byte
abbrev pub operands : ℕ → ℕ → ℕ → Named → Named
operands clients instr code after =
    if code == 6 then after else
    Field (place.Client instr) w16 (client_objection clients) λ client.
    if code == 1 then operation instr after else after

abbrev pub instruction : ℕ → ℕ → ℕ → Named → Named
instruction version clients instr after = Field (place.InstrKind instr) w8 (instr_objection version) (λ code. operands clients instr code after)

-- so many instructions, the first of which has this number
unfoldable pub instructions : ℕ → ℕ → ℕ → ℕ → Named → Named
instructions version clients instr zero after = after
instructions version clients instr (suc n) after = instruction version clients instr (instructions version clients (instr + 1) n after)

-- ---- all of it

abbrev pub clients_objection : ℕ → Option Objection
clients_objection = unless (λ n. nat_le 1 n && nat_le n CLIENT_LIMIT) kind.BadNumber (wanted.Positive CLIENT_LIMIT)

abbrev pub present_objection : ℕ → ℕ → Option Objection
present_objection clients = unless (λ n. nat_le n clients) kind.BadNumber (wanted.Number clients)

abbrev pub start_objection : ℕ → Option Objection
start_objection = unless (λ n. nat_le n START_LIMIT) kind.TooLong (wanted.Most START_LIMIT)

abbrev pub instrs_objection : ℕ → Option Objection
instrs_objection = unless (λ n. nat_le n INSTR_LIMIT) kind.TooMany (wanted.Most INSTR_LIMIT)

-- the first version has no such field
abbrev pub present : ℕ → ℕ → Named → Named
present version clients after = if version == 1 then after else Field place.Present w16 (present_objection clients) (λ n. after)

abbrev pub start : Named → Named
start after = Field place.StartCount w32 start_objection (λ count. characters Start 0 count after)

abbrev pub body : ℕ → ℕ → Named
body version clients = Field place.InstrCount w32 instrs_objection (λ count. instructions version clients 0 count End)

-- what comes after the magic
unfoldable pub after_magic : ℕ → Named
after_magic version = Field place.Clients w16 clients_objection (λ clients. present version clients (start (body version clients)))

abbrev pub magic_cut : ℕ → Refusal
magic_cut n = record { fault = fault n kind.Cut; place = place.Magic; reason = reason.Cut n 4 }

abbrev pub no_magic : Refusal
no_magic = record { fault = fault 0 kind.BadMagic; place = place.Magic; reason = reason.NoMagic }

-- the first field of bytes that is refused, or none where they are an image
unfoldable pub refusal_of : List ℕ → Option Refusal
refusal_of bytes =
    if bytes_eq (take 4 bytes) magic1 then first_refusal (after_magic 1) (past 4 (record { at = 0; rest = bytes })) else
    (if bytes_eq (take 4 bytes) magic2 then first_refusal (after_magic 2) (past 4 (record { at = 0; rest = bytes })) else
    (if is_front bytes then Some (magic_cut (length bytes)) else Some no_magic))

abbrev pub fault_in : Option Refusal → Option ImageFault
fault_in = option_map (λ r. r.fault)

-- a field is refused exactly where the layout without names has a fault, and with this fault
abbrev pub RefusalsAgree : Type 0
RefusalsAgree = (bytes : List ℕ) → fault_in (refusal_of bytes) ≡ fault_of bytes
