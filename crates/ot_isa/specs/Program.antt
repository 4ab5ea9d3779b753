-- What a schedule says: clients, a start text and instructions, and the limits of its type invariant.
use Rattle.std.specs.Prelude.{◌≡◌, ◌⊎◌, ℕ, ◌<◌, ◌≤◌, List, [], ◌∷◌, ◌++◌, length, true, Option, Some, None, IfSome}
use Rattle.std.specs.List.{All}
use Rattle.std.specs.Str.{all_scalars}
use Rattle.ot_operation.specs.Operation.{Operation, IsOperation, news}
use Rattle.ot_isa.specs.declared.instruction.Instr.{Instr}
use Rattle.ot_isa.specs.declared.instruction.Instr.TheVariants.{Edit, Take, Deliver, Acknowledge, Read, Join, ReadServer}
use Rattle.ot_isa.specs.declared.refusal.PushFault.{PushFault}
use Rattle.ot_isa.specs.declared.refusal.PushFault.TheVariants as push
use Rattle.ot_isa.specs.declared.builder.TheConstants.{CLIENT_LIMIT, INSTR_LIMIT, START_LIMIT}
use Rattle.ot_operation.specs.declared.TheConstants.{LIMIT}

-- a schedule: how many clients there are, how many of them are present at the start, the start text, and what is done
pub record Program : Type 0 where
  pub clients : ℕ
  pub present : ℕ
  pub start : List ℕ
  pub instrs : List Instr

-- the client that an instruction names
abbrev pub client_of : Instr → Option ℕ
client_of (Edit client op) = Some client
client_of (Take client) = Some client
client_of (Deliver client) = Some client
client_of (Acknowledge client) = Some client
client_of (Read client) = Some client
client_of (Join client) = Some client
client_of ReadServer = None

-- the instruction names no client but these
abbrev pub IsForClients : ℕ → Instr → Type 0
IsForClients clients instr = IfSome (client_of instr) (λ client. client < clients)

-- an operation whose two lengths are within the limit
pub record IsWithinLimit (op : Operation ℕ) : Type 0 where
  pub operation : IsOperation op
  pub base : op.base ≤ LIMIT
  pub target : length op.image ≤ LIMIT

-- an edit is an operation within the limit
abbrev pub IsOfLimits : Instr → Type 0
IsOfLimits (Edit client op) = IsWithinLimit op
IsOfLimits (Take client) = Unit {0}
IsOfLimits (Deliver client) = Unit {0}
IsOfLimits (Acknowledge client) = Unit {0}
IsOfLimits (Read client) = Unit {0}
IsOfLimits (Join client) = Unit {0}
IsOfLimits ReadServer = Unit {0}

-- the characters that an edit inserts are Unicode scalar values
abbrev pub HasScalars : Instr → Type 0
HasScalars (Edit client op) = all_scalars (news op.image) ≡ true
HasScalars (Take client) = Unit {0}
HasScalars (Deliver client) = Unit {0}
HasScalars (Acknowledge client) = Unit {0}
HasScalars (Read client) = Unit {0}
HasScalars (Join client) = Unit {0}
HasScalars ReadServer = Unit {0}

-- what a schedule of so many clients may have as an instruction
abbrev pub IsInstr : ℕ → Instr → Type 0
IsInstr clients instr = IsForClients clients instr × IsOfLimits instr

-- the type invariant of schedules
pub record IsProgram (program : Program) : Type 0 where
  pub clients_from : 1 ≤ program.clients
  pub clients_to : program.clients ≤ CLIENT_LIMIT
  pub present_to : program.present ≤ program.clients
  pub start_fits : length program.start ≤ START_LIMIT
  pub instrs_fit : length program.instrs ≤ INSTR_LIMIT
  pub instrs_are : All (IsInstr program.clients) program.instrs
  pub start_scalars : all_scalars program.start ≡ true
  pub instrs_scalars : All HasScalars program.instrs

-- a schedule without instructions
abbrev pub opening : ℕ → ℕ → List ℕ → Program
opening clients present start = record { clients = clients; present = present; start = start; instrs = [] }

abbrev pub with_instr : Program → Instr → Program
with_instr program instr = record program { instrs = program.instrs ++ instr ∷ [] }

-- there are 1 to 64 clients, and no more present ones
abbrev pub AreClients : ℕ → ℕ → Type 0
AreClients clients present = (1 ≤ clients) × (clients ≤ CLIENT_LIMIT) × (present ≤ clients)

abbrev pub AreNoClients : ℕ → ℕ → Type 0
AreNoClients clients present = (clients ≡ 0) ⊎ (CLIENT_LIMIT < clients) ⊎ (clients < present)

-- a schedule that is being made: what it says so far, and for how many more instructions there is memory
pub record BuilderView : Type 0 where
  pub program : Program
  pub room : ℕ

-- the instruction is refused for this reason, and for none before it
abbrev pub IsRefusal : BuilderView → Instr → PushFault → Type 0
IsRefusal draft instr push.BadClient = IsForClients draft.program.clients instr → ⊥
IsRefusal draft instr push.TooMany = IsForClients draft.program.clients instr × (length draft.program.instrs ≡ INSTR_LIMIT)
IsRefusal draft instr push.Memory = IsForClients draft.program.clients instr × (length draft.program.instrs < INSTR_LIMIT) × (draft.room ≡ 0)
