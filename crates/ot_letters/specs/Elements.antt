-- Clients and servers of ot.js over other elements: a map of each element that an operation, a message, a client or a log has.
use Rattle.std.specs.Prelude.{List, map}
use Rattle.ot_codes.specs.Shape.{mapped}
use Rattle.ot_client.specs.State.{Phase, Synchronized, AwaitingConfirm, AwaitingWithBuffer, State, Message}
use Rattle.ot_server.specs.History.{Entry, History}

-- a client's pending operations
abbrev pub mapped_phase : {A B : Type 0} → (A → B) → Phase A → Phase B
mapped_phase f Synchronized = Synchronized
mapped_phase f (AwaitingConfirm outstanding) = AwaitingConfirm (mapped f outstanding)
mapped_phase f (AwaitingWithBuffer outstanding buffer) = AwaitingWithBuffer (mapped f outstanding) (mapped f buffer)

abbrev pub mapped_client : {A B : Type 0} → (A → B) → State A → State B
mapped_client f client = record { revision = client.revision; phase = mapped_phase f client.phase }

abbrev pub mapped_message : {A B : Type 0} → (A → B) → Message A → Message B
mapped_message f message = record { revision = message.revision; op = mapped f message.op }

abbrev pub mapped_entry : {A B : Type 0} → (A → B) → Entry A → Entry B
mapped_entry f entry = record { maker = entry.maker; op = mapped f entry.op }

abbrev pub mapped_log : {A B : Type 0} → (A → B) → List (Entry A) → List (Entry B)
mapped_log f log = map (mapped_entry f) log

-- the server's document and log
abbrev pub mapped_history : {A B : Type 0} → (A → B) → History A → History B
mapped_history f server = record { document = map f server.document; log = mapped_log f server.log }
