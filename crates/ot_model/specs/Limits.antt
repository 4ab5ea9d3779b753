-- How long the lists and operations of a state are.
use Rattle.std.specs.Prelude.{◌≡◌, ℕ, ◌≤◌, length, slice_get, Some}
use Rattle.std.specs.List.{All}
use Rattle.ot_model.specs.Operation.{Operation}
use Rattle.ot_model.specs.Table.{Phase, NotJoined, Synchronized, AwaitingConfirm, AwaitingWithBuffer, Client, State, Message}
use Rattle.ot_isa.specs.declared.elements.Tagged.{Tagged}
use Rattle.ot_operation.specs.declared.TheConstants.{LIMIT}
use Rattle.ot_server.specs.declared.TheConstants.{LOG_LIMIT}

-- an operation whose two lengths are within the limit
pub record IsShort (op : Operation Tagged) : Type 0 where
  pub base : op.base ≤ LIMIT
  pub target : length op.image ≤ LIMIT

-- a client's pending operations
abbrev pub IsPhaseShort : Phase → Type 0
IsPhaseShort NotJoined = Unit {0}
IsPhaseShort Synchronized = Unit {0}
IsPhaseShort (AwaitingConfirm o) = IsShort o
IsPhaseShort (AwaitingWithBuffer o b) = IsShort o × IsShort b

-- no document, no operation in the log, under way or waiting, and no log passes the limit of 1,000,000
pub record IsWithinLimits (s : State) : Type 0 where
  pub log : length s.log ≤ LOG_LIMIT
  pub server : length s.server ≤ LIMIT
  pub entries : All (λ h. IsShort h.op) s.log
  pub lists : (c : ℕ) (x : Client) → slice_get s.clients c ≡ Some x → length x.list ≤ LIMIT
  pub phases : (c : ℕ) (x : Client) → slice_get s.clients c ≡ Some x → IsPhaseShort x.phase
  pub messages : (c : ℕ) (x : Client) (m : Message) → slice_get s.clients c ≡ Some x → x.message ≡ Some m → IsShort m.op
