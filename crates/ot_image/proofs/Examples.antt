-- The definitions on a small schedule: one client, start text "a", edit 0 [1,"b"], read-server.
use Rattle.std.proofs.Common.{◌≡◌, ℕ, ◌++◌, List, [], ◌∷◌, take, set, refl}
use Rattle.std.specs.Prelude.{Option, Some, None}
use Rattle.ot_operation.specs.Operation.{Old, New}
use Rattle.ot_isa.specs.declared.instruction.Instr.TheVariants.{Edit, ReadServer}
use Rattle.ot_isa.specs.Program.{Program}
use Rattle.ot_image.specs.declared.fault.ImageFault.{ImageFault}
use Rattle.ot_image.specs.declared.fault.Kind.TheVariants.{Cut, BadMagic, BadNumber, BadScalar, BadOpcode, BadClient, NotNormal, TooLong, Trailing}
use Rattle.ot_image.specs.Spelling.{bytes1, bytes2}
use Rattle.ot_image.specs.Reading.{fault}
use Rattle.ot_image.specs.Layout.{first_fault, characters, components, instructions, after_magic, fault_of}

abbrev example : Program
example = record { clients = 1; present = 1; start = 97 ∷ []; instrs = Edit 0 (record { base = 1; image = Old 0 ∷ New 98 ∷ [] }) ∷ ReadServer ∷ [] }

-- its forty bytes in the first version
first_bytes : bytes1 example ≡
    79 ∷ 84 ∷ 83 ∷ 49 ∷ 0 ∷ 1 ∷ 0 ∷ 0 ∷ 0 ∷ 1 ∷ 0 ∷ 0 ∷ 0 ∷ 97 ∷ 0 ∷ 0 ∷ 0 ∷ 2 ∷ 1 ∷ 0 ∷ 0 ∷ 0 ∷ 0 ∷ 0 ∷ 2
    ∷ 16 ∷ 0 ∷ 0 ∷ 0 ∷ 1 ∷ 17 ∷ 0 ∷ 0 ∷ 0 ∷ 1 ∷ 0 ∷ 0 ∷ 0 ∷ 98 ∷ 6 ∷ []
first_bytes = refl

-- its forty-two bytes in the second version
second_bytes : bytes2 example ≡
    79 ∷ 84 ∷ 83 ∷ 50 ∷ 0 ∷ 1 ∷ 0 ∷ 1 ∷ 0 ∷ 0 ∷ 0 ∷ 1 ∷ 0 ∷ 0 ∷ 0 ∷ 97 ∷ 0 ∷ 0 ∷ 0 ∷ 2 ∷ 1 ∷ 0 ∷ 0 ∷ 0 ∷ 0 ∷ 0 ∷ 2
    ∷ 16 ∷ 0 ∷ 0 ∷ 0 ∷ 1 ∷ 17 ∷ 0 ∷ 0 ∷ 0 ∷ 1 ∷ 0 ∷ 0 ∷ 0 ∷ 98 ∷ 6 ∷ []
second_bytes = refl

-- ---- the faults of bytes, from the fields alone

-- what the examples compute with
abbrev found : List ℕ → Option ImageFault
unfolding fault_of first_fault characters components instructions after_magic
found bytes = fault_of bytes

-- the first image with another byte
abbrev with_byte : ℕ → ℕ → Option ImageFault
with_byte place byte = fault_of (set (bytes1 example) place byte)

whole : (fault_of (bytes1 example) ≡ None) × (fault_of (bytes2 example) ≡ None)
unfolding found
whole = (refl, refl)

-- fewer bytes than a magic, the last field but one, and one byte too many
ended : (fault_of [] ≡ Some (fault 0 Cut)) × (fault_of (take 3 (bytes1 example)) ≡ Some (fault 3 Cut)) × (fault_of (take 37 (bytes1 example)) ≡ Some (fault 37 Cut)) × (fault_of (bytes1 example ++ 0 ∷ []) ≡ Some (fault 40 Trailing))
unfolding found
ended = (refl, refl, refl, refl)

-- the magic, the number of clients, a character, the client of the edit
valued : (with_byte 0 0 ≡ Some (fault 0 BadMagic)) × (with_byte 5 0 ≡ Some (fault 4 BadNumber)) × (with_byte 12 216 ≡ Some (fault 10 BadScalar)) × (with_byte 20 1 ≡ Some (fault 19 BadClient))
unfolding found
valued = (refl, refl, refl, refl)

-- an insertion after a deletion, a component of length 0, a length too long, and a byte of no instruction of the first version
ordered : (with_byte 25 18 ≡ Some (fault 30 NotNormal)) × (with_byte 29 0 ≡ Some (fault 26 BadNumber)) × (with_byte 27 16 ≡ Some (fault 26 TooLong)) × (with_byte 39 7 ≡ Some (fault 39 BadOpcode))
unfolding found
ordered = (refl, refl, refl, refl)

-- more clients present than there are
late : fault_of (set (bytes2 example) 7 2) ≡ Some (fault 6 BadNumber)
unfolding found
late = refl
