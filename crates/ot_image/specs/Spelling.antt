-- The bytes of a schedule, one field after the other, in either version.
use Rattle.std.specs.Prelude.{◌≡◌, ◌⊎◌, ℕ, ◌≤◌, List, [], ◌∷◌, ◌++◌, length}
use Rattle.std.specs.List.{flat_map, All}
use Rattle.std.specs.Int.{w16, w32, to_be_bytes}
use Rattle.ot_operation.specs.Run.{Run, Keep, Add, Skip, normal_runs}
use Rattle.ot_isa.specs.declared.instruction.Instr.{Instr}
use Rattle.ot_isa.specs.declared.instruction.Instr.TheVariants.{Edit, Take, Deliver, Acknowledge, Read, Join, ReadServer}
use Rattle.ot_isa.specs.Program.{Program, IsProgram}
use Rattle.ot_image.specs.Reading.{magic1, magic2}

-- the byte of a component's kind
abbrev pub code_of : Run ℕ → ℕ
code_of (Keep n) = 16
code_of (Add s) = 17
code_of (Skip n) = 18

abbrev pub size_of : Run ℕ → ℕ
size_of (Keep n) = n
size_of (Add s) = length s
size_of (Skip n) = n

-- the new characters
abbrev pub chars_in : Run ℕ → List ℕ
chars_in (Keep n) = []
chars_in (Add s) = s
chars_in (Skip n) = []

-- a byte for the kind, the length, and the new characters
abbrev pub component : Run ℕ → List ℕ
component r = code_of r ∷ to_be_bytes w32 (size_of r) ++ flat_map (to_be_bytes w32) (chars_in r)

abbrev pub components : List (Run ℕ) → List ℕ
components rs = to_be_bytes w32 (length rs) ++ flat_map component rs

-- the byte of an instruction's kind
abbrev pub opcode : Instr → ℕ
opcode (Edit client op) = 1
opcode (Take client) = 2
opcode (Deliver client) = 3
opcode (Acknowledge client) = 4
opcode (Read client) = 5
opcode ReadServer = 6
opcode (Join client) = 7

abbrev pub operands : Instr → List ℕ
operands (Edit client op) = to_be_bytes w16 client ++ components (normal_runs op)
operands (Take client) = to_be_bytes w16 client
operands (Deliver client) = to_be_bytes w16 client
operands (Acknowledge client) = to_be_bytes w16 client
operands (Read client) = to_be_bytes w16 client
operands ReadServer = []
operands (Join client) = to_be_bytes w16 client

-- a byte for the kind, and what the instruction names
abbrev pub instruction : Instr → List ℕ
instruction i = opcode i ∷ operands i

-- what the two versions have alike
abbrev pub body : Program → List ℕ
body p = (to_be_bytes w32 (length p.start) ++ flat_map (to_be_bytes w32) p.start) ++ (to_be_bytes w32 (length p.instrs) ++ flat_map instruction p.instrs)

abbrev pub bytes1 : Program → List ℕ
bytes1 p = magic1 ++ to_be_bytes w16 p.clients ++ body p

abbrev pub bytes2 : Program → List ℕ
bytes2 p = magic2 ++ to_be_bytes w16 p.clients ++ to_be_bytes w16 p.present ++ body p

-- what has an image of the first version: all clients are present, and none joins later
abbrev pub IsOfFirst : Program → Type 0
IsOfFirst p = (p.present ≡ p.clients) × All (λ i. opcode i ≤ 6) p.instrs

-- the bytes are an image of the schedule, of either version
abbrev pub IsImageOf : List ℕ → Program → Type 0
IsImageOf bytes p = IsProgram p × ((IsOfFirst p × (bytes ≡ bytes1 p)) ⊎ (bytes ≡ bytes2 p))

-- no image is a proper front of another, and different schedules have different images
abbrev pub ImagesDiffer : Type 0
ImagesDiffer = (p q : Program) (bytes others rest : List ℕ) → IsImageOf bytes p → IsImageOf others q → bytes ++ rest ≡ others → (rest ≡ []) × (p ≡ q)
