-- An image as its fields, one after the other, and the fault of bytes in these words: that of the first field from the left
-- that is cut, or whose value is not allowed.
use Rattle.std.specs.Prelude.{◌≡◌, ℕ, zero, suc, ◌+◌, List, length, take, Option, Some, None, Result, Ok, Err, nat_lt, nat_le, ◌==◌, ◌&&◌, ◌||◌, Bool, if◌then◌else◌}
use Rattle.std.specs.Int.{Width, w8, w16, w32, byte_len, from_be_bytes}
use Rattle.std.specs.Str.{bytes_eq}
use Rattle.std.proofs.Math.Utf8.{scalar}
use Rattle.ot_image.specs.declared.fault.ImageFault.{ImageFault}
use Rattle.ot_image.specs.declared.fault.Kind.{Kind}
use Rattle.ot_image.specs.declared.fault.Kind.TheVariants.{Cut, BadMagic, BadNumber, TooLong, TooMany, BadScalar, BadOpcode, BadClient, NotNormal, Trailing}
use Rattle.ot_isa.specs.declared.builder.TheConstants.{CLIENT_LIMIT, INSTR_LIMIT, START_LIMIT}
use Rattle.ot_operation.specs.declared.TheConstants.{LIMIT}
use Rattle.ot_image.specs.Reading.{Spot, cut, fault, past, magic1, magic2, may_follow, image_of}

-- the fields of an image that are still to come
pub data Layout : Type 0 where
  -- none, and no byte either
  End : Layout
  -- a number of so many bytes; the fault of a value that is not allowed there; and what comes after each value
  Field : Width → (ℕ → Option Kind) → (ℕ → Layout) → Layout

-- the first field from the left that is cut, or whose value is not allowed; or a byte after the last one
unfoldable pub first_fault : Layout → Spot → Option ImageFault
first_fault End s = if length s.rest == 0 then None else Some (fault s.at Trailing)
first_fault (Field width refused next) s =
    if nat_lt (length s.rest) (byte_len width) then Some (cut s) else
    (let value = from_be_bytes width (take (byte_len width) s.rest) in
    elim (refused value) [
      | Some kind ↦ Some (fault s.at kind)
      | None ↦ first_fault (next value) (past (byte_len width) s)
    ])

-- all other values have this fault
abbrev pub unless : (ℕ → Bool) → Kind → ℕ → Option Kind
unless allowed kind value = if allowed value then None else Some kind

abbrev pub any : ℕ → Option Kind
any value = None

-- so many characters
unfoldable pub characters : ℕ → Layout → Layout
characters zero after = after
characters (suc n) after = Field w32 (unless scalar BadScalar) (λ c. characters n after)

-- ---- operations

-- a component's byte, after one of the kind `last`, or 0
abbrev pub code_fault : ℕ → ℕ → Option Kind
code_fault last code =
    if nat_le 16 code && nat_le code 18 then (if may_follow last code then None else Some NotNormal) else Some BadOpcode

-- the base length and the target length with so long a component more
abbrev pub base_after : ℕ → ℕ → ℕ → ℕ
base_after code base n = if code == 17 then base else base + n

abbrev pub target_after : ℕ → ℕ → ℕ → ℕ
target_after code target n = if code == 18 then target else target + n

-- a component's length
abbrev pub length_fault : ℕ → ℕ → ℕ → ℕ → Option Kind
length_fault code base target n =
    if n == 0 then Some BadNumber else
    (if nat_le (base_after code base n) LIMIT && nat_le (target_after code target n) LIMIT then None else Some TooLong)

-- the characters of an insertion; a retain and a deletion have none
abbrev pub text : ℕ → ℕ → Layout → Layout
text code n after = if code == 17 then characters n after else after

-- so many components, after one of the kind `last`, where those before make an operation of these two lengths
unfoldable pub components : ℕ → ℕ → ℕ → ℕ → Layout → Layout
components zero last base target after = after
components (suc n) last base target after =
    Field w8 (code_fault last) λ code.
    Field w32 (length_fault code base target) λ size.
    text code size (components n code (base_after code base size) (target_after code target size) after)

abbrev pub operation : Layout → Layout
operation after = Field w32 any (λ count. components count 0 0 0 after)

-- ---- instructions

abbrev pub instruction : ℕ → ℕ → Layout → Layout
instruction version clients after =
    Field w8 (unless (λ code. nat_le 1 code && nat_le code (5 + version)) BadOpcode) λ code.
    if code == 6 then after else
    Field w16 (unless (λ client. nat_lt client clients) BadClient) λ client.
    if code == 1 then operation after else after

-- so many instructions, and the end
unfoldable pub instructions : ℕ → ℕ → ℕ → Layout
instructions version clients zero = End
instructions version clients (suc n) = instruction version clients (instructions version clients n)

-- ---- all of it

-- the first version has no such field
abbrev pub present : ℕ → ℕ → Layout → Layout
present version clients after =
    if version == 1 then after else Field w16 (unless (λ n. nat_le n clients) BadNumber) (λ n. after)

-- what comes after the magic
unfoldable pub after_magic : ℕ → Layout
after_magic version =
    Field w16 (unless (λ n. nat_le 1 n && nat_le n CLIENT_LIMIT) BadNumber) λ clients.
    present version clients
    (Field w32 (unless (λ n. nat_le n START_LIMIT) TooLong) λ count.
    characters count
    (Field w32 (unless (λ n. nat_le n INSTR_LIMIT) TooMany) λ instrs.
    instructions version clients instrs))

-- these are fewer bytes than a magic, and the front of one
abbrev pub is_front : List ℕ → Bool
is_front bytes =
    nat_lt (length bytes) 4 && (bytes_eq bytes (take (length bytes) magic1) || bytes_eq bytes (take (length bytes) magic2))

-- the fault of bytes, or none where they are an image
unfoldable pub fault_of : List ℕ → Option ImageFault
fault_of bytes =
    if bytes_eq (take 4 bytes) magic1 then first_fault (after_magic 1) (past 4 (record { at = 0; rest = bytes })) else
    (if bytes_eq (take 4 bytes) magic2 then first_fault (after_magic 2) (past 4 (record { at = 0; rest = bytes })) else
    (if is_front bytes then Some (fault (length bytes) Cut) else Some (fault 0 BadMagic)))

-- what reading fails with
abbrev pub fault_in : {A : Type 0} → Result A ImageFault → Option ImageFault
fault_in (Ok x) = None
fault_in (Err f) = Some f

-- of all bytes the two say the same
abbrev pub FaultsAgree : Type 0
FaultsAgree = (bytes : List ℕ) → fault_of bytes ≡ fault_in (image_of bytes)
