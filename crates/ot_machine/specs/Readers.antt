-- What the readers give of a state of the table.
use Rattle.std.specs.Prelude.{◌≡◌, ◌↔◌, ℕ, ◌+◌, Option, Some, None, length, map, slice_get, ◌==◌, if◌then◌else◌, IsTrue, true}
use Rattle.std.specs.Option.{option_map}
use Rattle.ot_model.specs.Table.{Client, State, Entry, is_joined, IsQuiet}
use Rattle.ot_model.specs.Table as table
use Rattle.ot_machine.specs.declared.state.Phase.{Phase}
use Rattle.ot_machine.specs.declared.state.Phase.TheVariants.{NotJoined, Synchronized, AwaitingConfirm, AwaitingWithBuffer}
use Rattle.ot_machine.specs.declared.state.Head.{Head}
use Rattle.ot_machine.specs.declared.state.Head.TheVariants.{Ack, Op}
use Rattle.ot_machine.specs.declared.state.ClientView.{ClientView}
use Rattle.ot_machine.specs.declared.state.State as shown

-- client c is there, and this is its value
abbrev pub ClientHas : {A : Type 0} → State → ℕ → (Client → A) → A → Type 0
ClientHas s c field value = option_map field (slice_get s.clients c) ≡ Some value

-- which of the phases it is
abbrev pub phase_name : table.Phase → Phase
phase_name table.NotJoined = NotJoined
phase_name table.Synchronized = Synchronized
phase_name (table.AwaitingConfirm o) = AwaitingConfirm
phase_name (table.AwaitingWithBuffer o b) = AwaitingWithBuffer

-- the message that an entry of the log is to client c
abbrev pub head_of : ℕ → ℕ → Entry → Head
head_of c number entry = if entry.maker == c then Ack else Op number

-- the message at a place of the downlink, counted from the front
abbrev pub head_at : State → ℕ → ℕ → Client → Option Head
head_at s c place x =
    if is_joined x.phase then option_map (head_of c (x.revision + place)) (slice_get s.log (x.revision + place)) else None

-- what a message means in the table
abbrev pub meant : State → Option Head → Option table.Head
meant s None = None
meant s (Some Ack) = Some table.Ack
meant s (Some (Op number)) = option_map (λ (entry : Entry). table.Op entry.op) (slice_get s.log number)

-- what of a client is shown
abbrev pub client_view : Client → ClientView
client_view x = record { revision = x.revision; phase = phase_name x.phase; document = x.list }

-- every joined client's list is the server's
abbrev pub AreOne : State → Type 0
AreOne s = (c : ℕ) (x : Client) → slice_get s.clients c ≡ Some x → is_joined x.phase ≡ true → x.list ≡ s.server

-- the state as it is shown
pub record IsShownState (s : State) (view : shown.State) : Type 0 where
  pub clients : view.clients.items ≡ map client_view s.clients
  pub server_revision : view.server_revision ≡ length s.log
  pub server : view.server ≡ s.server
  pub quiet : IsTrue view.quiet ↔ IsQuiet s
