-- What a performed instruction did, from the state s before it and the state t after it.
use Rattle.std.specs.Prelude.{◌≡◌, ◌<◌, ℕ, List, length, get_or, slice_get, ◌==◌, if◌then◌else◌, Bool, true, false, Option, Some, None}
use Rattle.std.specs.Option.{option_map}
use Rattle.ot_isa.specs.declared.instruction.Instr.{Instr}
use Rattle.ot_isa.specs.declared.instruction.Instr.TheVariants.{Edit, Take, Deliver, Acknowledge, Join, Read, ReadServer}
use Rattle.ot_isa.specs.declared.elements.Tagged.{Tagged}
use Rattle.ot_model.specs.declared.shown.Reader.{Reader}
use Rattle.ot_model.specs.declared.shown.Reader.TheVariants.{Client, Server}
use Rattle.ot_model.specs.declared.shown.Shown.{Shown}
use Rattle.ot_model.specs.declared.limits.TheConstants.{STEP_LIMIT}
use Rattle.ot_model.specs.Operation.{Operation}
use Rattle.ot_model.specs.Table as table
use Rattle.ot_model.specs.Table.{Entry, Phase, NotJoined, Synchronized, AwaitingConfirm, AwaitingWithBuffer, State, Performed, absent, against_pending, is_joined, step}
use Rattle.ot_machine.specs.Readers.{ClientHas}
use Rattle.ot_machine.specs.declared.effect.Applied as given
use Rattle.ot_machine.specs.declared.effect.Effect.{Effect}

-- client c in a state
abbrev pub client_in : State → ℕ → table.Client
client_in s c = get_or s.clients c absent

-- who is read by an instruction
abbrev pub reader_of : Instr → Option Reader
reader_of (Read c) = Some (Client c)
reader_of ReadServer = Some Server
reader_of i = None

-- the instruction that reads it
abbrev pub read_by : Reader → Instr
read_by (Client c) = Read c
read_by Server = ReadServer

-- the one who is read is there
abbrev pub IsThere : State → Reader → Type 0
IsThere s (Client c) = c < length s.clients
IsThere s Server = Unit {0}

-- the list of the one who is read
abbrev pub list_of : State → Reader → List Tagged
list_of s (Client c) = (client_in s c).list
list_of s Server = s.server

-- a read shows it
abbrev pub shown_by : State → Reader → Shown
shown_by s who = record { who = who; list = list_of s who }

-- an edit is sent at once where nothing is under way, and an acknowledgement sends the buffer
abbrev pub is_synchronized : Phase → Bool
is_synchronized Synchronized = true
is_synchronized phase = false

abbrev pub has_buffer : Phase → Bool
has_buffer (AwaitingWithBuffer o b) = true
has_buffer phase = false

-- whether an instruction puts a message on its client's link to the server
abbrev pub sends : Instr → State → Bool
sends (Edit c op) s = is_synchronized (client_in s c).phase
sends (Acknowledge c) s = has_buffer (client_in s c).phase
sends i s = false

-- the head of client c's downlink, transformed against the client's pending operations; none where it is the client's own entry, or nothing
abbrev pub against_pending_head : ℕ → Phase → Option Entry → Option (Operation Tagged)
against_pending_head c phase None = None
against_pending_head c phase (Some h) = if h.maker == c then None else Some (against_pending phase h.op)

-- none where the client has not joined
abbrev pub delivery_of : State → ℕ → table.Client → Option (Operation Tagged)
delivery_of s c x = if is_joined x.phase then against_pending_head c x.phase (slice_get s.log x.revision) else None

-- what an instruction applies to its client's list by a delivery
abbrev pub applied_by : State → Instr → Option (Operation Tagged)
applied_by s (Deliver c) = delivery_of s c (client_in s c)
applied_by s i = None

-- the operation that is given as applied; that of an entry stands in the log
abbrev pub applied_in : State → given.Applied → Option (Operation Tagged)
applied_in t given.TheVariants.Nothing = None
applied_in t (given.TheVariants.Entry number) = option_map (λ (h : Entry). h.op) (slice_get t.log number)
applied_in t (given.TheVariants.Transformed op) = Some op

-- the table performs the instruction i, and this is what it did
pub record IsEffect (s : State) (i : Instr) (t : State) (effect : Effect) : Type 0 where
  pub led : step s i ≡ Performed t (option_map (shown_by t) (reader_of i))
  pub shown : effect.shown ≡ reader_of i
  pub sent : effect.sent ≡ sends i s
  pub applied : applied_in t effect.applied ≡ applied_by s i

-- client c is there and has joined, or not, and a step is left
pub record IsAt (s : State) (c : ℕ) (joined : Bool) : Type 0 where
  pub there : c < length s.clients
  pub left : s.steps < STEP_LIMIT
  pub phase : ClientHas s c (λ x. is_joined x.phase) joined

-- a client joins
abbrev pub is_join : Instr → Bool
is_join (Join c) = true
is_join i = false

-- what the table asks before the row of an instruction
abbrev pub IsReady : State → Instr → Type 0
IsReady s (Join c) = IsAt s c false
IsReady s ReadServer = s.steps < STEP_LIMIT
IsReady s (Edit c op) = IsAt s c true
IsReady s (Take c) = IsAt s c true
IsReady s (Deliver c) = IsAt s c true
IsReady s (Acknowledge c) = IsAt s c true
IsReady s (Read c) = IsAt s c true

-- a client made this of the operation of the entry with the number r: the operation as it is, or another
abbrev pub IsMadeOf : ℕ → Operation Tagged → Operation Tagged → given.Applied → Type 0
IsMadeOf r op made given.TheVariants.Nothing = ⊥
IsMadeOf r op made (given.TheVariants.Entry number) = (number ≡ r) × (op ≡ made)
IsMadeOf r op made (given.TheVariants.Transformed x) = x ≡ made
