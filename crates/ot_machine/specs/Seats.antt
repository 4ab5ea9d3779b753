-- The program's clients as the table's.
use Rattle.std.specs.Prelude.{◌≡◌, ℕ, zero, suc, ◌-◌, Option, Some, None, true, List, [], ◌∷◌, ◌++◌, ◌<◌, ◌≤◌, map, length, slice_get, if◌then◌else◌}
use Rattle.ot_server.specs.declared.fault.ServerFault.{ServerFault}
use Rattle.ot_server.specs.declared.fault.ServerFault.TheVariants as fault
use Rattle.ot_server.specs.History.{History, received}
use Rattle.ot_server.specs.Faults.{fault_of}
use Rattle.ot_model.specs.Sound.{IsSound}
use Rattle.ot_model.specs.Operation.{Operation}
use Rattle.std.specs.Option.{option_map}
use Rattle.ot_isa.specs.declared.elements.Tagged.{Tagged}
use Rattle.ot_client.specs.State as state
use Rattle.ot_client.specs.Conditions as conditions
use Rattle.ot_client.specs.declared.client.Client as program
use Rattle.ot_client.specs.declared.sent.Sent.{Sent}
use Rattle.ot_client.specs.Client.{state_of, message_of}
use Rattle.ot_machine.specs.declared.seat.Seat.{Seat}
use Rattle.ot_model.specs.Table.{Phase, NotJoined, Synchronized, AwaitingConfirm, AwaitingWithBuffer, phase_in, is_joined, Client, State, Message}
use Rattle.ot_client.specs.declared.TheConstants.{REVISION_LIMIT}

-- a seat without a client is one that has not joined
abbrev pub phase_of : Option (program.Client Tagged) → Phase
phase_of None = NotJoined
phase_of (Some client) = phase_in (state_of client).phase

-- how many entries of the log the client has; none where it has not joined
abbrev pub revision_of : Option (program.Client Tagged) → ℕ
revision_of None = 0
revision_of (Some client) = (state_of client).revision

-- the client that a seat holds
abbrev pub client_of : Seat → Client
client_of seat =
    record {
      revision = revision_of seat.client;
      phase = phase_of seat.client;
      list = seat.list;
      count = seat.count;
      message = option_map message_of seat.up;
    }

-- the client of a seat, in a state that is not put there yet
abbrev pub client_in : state.State Tagged → Seat → Client
client_in client seat =
    record {
      revision = client.revision;
      phase = phase_in client.phase;
      list = seat.list;
      count = seat.count;
      message = option_map message_of seat.up;
    }

-- an edit of this base follows what the client has made
abbrev pub Follows : Phase → ℕ → Type 0
Follows NotJoined base = ⊥
Follows Synchronized base = Unit {0}
Follows (AwaitingConfirm o) base = base ≡ length o.image
Follows (AwaitingWithBuffer o b) base = base ≡ length b.image

-- an edit sends its operation only where nothing is under way
abbrev pub MaySend : Phase → Option (Sent Tagged) → Type 0
MaySend Synchronized up = up ≡ None
MaySend phase up = Unit {0}

-- what is on the way to the server once this is sent, if anything is
abbrev pub under_way : Option (Sent Tagged) → Option (Sent Tagged) → Option (Sent Tagged)
under_way None up = up
under_way (Some sent) up = Some sent

-- what is sent has to find the link empty
abbrev pub MayPush : Option (Sent Tagged) → Option (Sent Tagged) → Type 0
MayPush None up = Unit {0}
MayPush (Some sent) up = up ≡ None

-- the numbers of the log's entries from one on
abbrev pub numbers : ℕ → ℕ → List ℕ
numbers from zero = []
numbers from (suc count) = from ∷ numbers (suc from) count

-- what stands on the way to a client: the log from its revision on
abbrev pub incoming : Client → ℕ → List ℕ
incoming x end = if is_joined x.phase then numbers x.revision (end - x.revision) else []

-- a seat as callers see it: its client, and what stands on the way to it
pub record View : Type 0 where
  pub client : Client
  pub queue : List ℕ

-- the seat as callers see it
abbrev pub view_of : Seat → View
view_of seat = record { client = client_of seat; queue = seat.down.items }

-- a client to which nothing is on the way
abbrev pub idle : Client → View
idle client = record { client = client; queue = [] }

-- each queue is as the log says
abbrev pub AreQueues : ℕ → List View → Type 0
AreQueues end views = (c : ℕ) (v : View) → slice_get views c ≡ Some v → v.queue ≡ incoming v.client end

-- the machine's fields as a state of the table
abbrev pub state_from : History Tagged → List Seat → ℕ → State
state_from server seats steps =
    record { log = server.log; server = server.document; clients = map client_of seats; steps = steps }

-- the invariant of the machine
pub record IsKept (server : History Tagged) (seats : List Seat) (steps : ℕ) : Type 0 where
  pub sound : IsSound (state_from server seats steps)
  pub queues : AreQueues (length server.log) (map view_of seats)

-- one more on the way to a client that has joined
abbrev pub queued : ℕ → View → View
queued number v = record { client = v.client; queue = if is_joined v.client.phase then v.queue ++ number ∷ [] else v.queue }

-- the first of a list changed
abbrev pub swept : {X : Type 0} → (X → X) → ℕ → List X → List X
swept f zero xs = xs
swept f (suc i) [] = []
swept f (suc i) (x ∷ xs) = f x ∷ swept f i xs

-- there is room for one more
abbrev pub HasRoom : Seat → Type 0
HasRoom seat = 0 < seat.down.room

-- so it is with the seats from one on
abbrev pub HaveRoomFrom : ℕ → List Seat → Type 0
HaveRoomFrom i seats = (c : ℕ) (seat : Seat) → i ≤ c → slice_get seats c ≡ Some seat → HasRoom seat

-- what a delivery needs of the client's state: of its revision, and what ot.js' client asks of the operations
abbrev pub MayDeliverState : state.State Tagged → Operation Tagged → Type 0
MayDeliverState client op = (client.revision < REVISION_LIMIT) × conditions.MayDeliver client.phase op

-- and of its list
abbrev pub MayDeliverTo : Option (program.Client Tagged) → Operation Tagged → List Tagged → Type 0
MayDeliverTo None op list = ⊥
MayDeliverTo (Some client) op list = MayDeliverState (state_of client) op × ((state.against_pending (state_of client).phase op).base ≡ length list)

-- what a delivery needs of the seat
abbrev pub MaySeatDeliver : Seat → Operation Tagged → Type 0
MaySeatDeliver seat op = MayDeliverTo seat.client op seat.list

-- an acknowledgement comes only where something was sent, and nothing is under way any more
abbrev pub IsAwaiting : Phase → Type 0
IsAwaiting (AwaitingConfirm o) = Unit {0}
IsAwaiting (AwaitingWithBuffer o b) = Unit {0}
IsAwaiting phase = ⊥

-- what an acknowledgement needs of the seat
abbrev pub MaySeatAcknowledge : Seat → Type 0
MaySeatAcknowledge seat = IsAwaiting (phase_of seat.client) × (revision_of seat.client < REVISION_LIMIT) × (seat.up ≡ None)

-- the client after a Join at a log of this length
abbrev pub joined_at : ℕ → List Tagged → Client → Client
joined_at revision list x = record { revision = revision; phase = Synchronized; list = list; count = x.count; message = x.message }

-- the links of a seat are as the log says: the numbers from the client's revision on
abbrev pub IsWaiting : History Tagged → Seat → Type 0
IsWaiting server seat = seat.down.items ≡ numbers (revision_of seat.client) (length server.log - revision_of seat.client)

-- the operation under way from a client, transformed to its own revision
abbrev pub outstanding_of : ℕ → Phase → Option Message
outstanding_of revision (AwaitingConfirm o) = Some (record { revision = revision; op = o })
outstanding_of revision (AwaitingWithBuffer o b) = Some (record { revision = revision; op = o })
outstanding_of revision phase = None

-- so of a seat, if it is there
abbrev pub outstanding_in : Option View → Option Message
outstanding_in None = None
outstanding_in (Some v) = outstanding_of v.client.revision v.client.phase

-- so of the seat with this number
abbrev pub outstanding_at : List View → ℕ → Option Message
outstanding_at views c = outstanding_in (slice_get views c)

-- the server takes the operation
abbrev pub IsReceivable : History Tagged → Option Message → Type 0
IsReceivable server None = ⊥
IsReceivable server (Some m) = fault_of server m.revision m.op ≡ None

-- the server after it has received the operation, if there is one
abbrev pub received_from : History Tagged → ℕ → Option Message → History Tagged
received_from server c None = server
received_from server c (Some m) = received server c m.revision m.op

-- the seat with its message gone
abbrev pub without_message : View → View
without_message v =
    record {
      client = record { revision = v.client.revision; phase = v.client.phase; list = v.client.list; count = v.client.count; message = None };
      queue = v.queue;
    }

-- the seats with the message of one gone
abbrev pub emptied : ℕ → List View → List View
emptied c [] = []
emptied zero (v ∷ views) = without_message v ∷ views
emptied (suc c) (v ∷ views) = v ∷ emptied c views

-- the server's fault is out of memory
abbrev pub IsMemory : ServerFault → Type 0
IsMemory fault.Memory = Unit {0}
IsMemory other = ⊥

-- a client with nothing under way in either direction
abbrev pub IsSettled : View → Type 0
IsSettled v = is_joined v.client.phase ≡ true → (v.client.message ≡ None) × (v.queue ≡ []) × (v.client.phase ≡ Synchronized)

-- so it is with all seats
abbrev pub AreSettled : List Seat → Type 0
AreSettled seats = (k : ℕ) (seat : Seat) → slice_get seats k ≡ Some seat → IsSettled (view_of seat)
