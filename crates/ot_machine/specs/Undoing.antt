-- The undo records of steps.
use Rattle.std.specs.Prelude.{◌≡◌, ℕ, suc, ◌-◌, List, ◌∷◌, Option, Some, None, length, slice_get, take, if◌then◌else◌}
use Rattle.ot_isa.specs.declared.elements.Tagged.{Tagged}
use Rattle.ot_operation.specs.Operation.{Operation, apply}
use Rattle.ot_client.specs.State as client
use Rattle.ot_client.specs.Change.{changed, Fits}
use Rattle.ot_client.specs.declared.change.Change.{Change}
use Rattle.ot_client.specs.declared.sent.Sent.{Sent}
use Rattle.ot_client.specs.Client.{message_of}
use Rattle.ot_server.specs.Undo.{IsUndo}
use Rattle.ot_model.specs.Table.{Client, Message, State, by_rule, phase_in, absent, taken, with_client}
use Rattle.ot_model.specs.Sound.{IsSound}
use Rattle.ot_machine.specs.declared.kept.Before.{Before}
use Rattle.ot_machine.specs.declared.undo.Record.{Record}
use Rattle.ot_machine.specs.declared.undo.Record.TheVariants.{ClientStep, Taken, Joined, Read}
use Rattle.ot_machine.specs.declared.undo.Undo.{Undo}
use Rattle.ot_machine.specs.Seats.{View}

-- the list before, from the list after
abbrev pub list_before : Option (Operation Tagged) → List Tagged → List Tagged
list_before None list = list
list_before (Some inverse) list = apply inverse list

-- the client in this state
abbrev pub with_state : Client → client.State Tagged → Client
with_state x state = record { revision = state.revision; phase = phase_in state.phase; list = x.list; count = x.count; message = x.message }

-- the client after the change was exchanged, where it has joined
abbrev pub exchanged : Change Tagged → Client → Client
exchanged change x = by_rule x (λ p. with_state x (changed (record { revision = x.revision; phase = p }) change)) x.phase

-- the client has joined, and the change may be exchanged there
abbrev pub FitsState : Change Tagged → Client → Type 0
FitsState change x = by_rule ⊥ (λ p. Fits (record { revision = x.revision; phase = p }) change) x.phase

-- the client as the record says
abbrev pub reverted : Before → Client → Client
reverted before x =
    record {
      revision = (exchanged before.change x).revision;
      phase = (exchanged before.change x).phase;
      list = list_before before.inverse x.list;
      count = before.count;
      message = if before.unsent then None else x.message;
    }

-- what was on the way to the client
abbrev pub queue_before : Before → Client → List ℕ → List ℕ
queue_before before x queue = if before.received then (reverted before x).revision ∷ queue else queue

-- the inverse, if there is one, can be applied to the list
abbrev pub FitsBack : Option (Operation Tagged) → List Tagged → Type 0
FitsBack None list = Unit {0}
FitsBack (Some inverse) list = inverse.base ≡ length list

-- the inverse, if there is one, restores the list before from the list after
abbrev pub GivesBack : Option (Operation Tagged) → List Tagged → List Tagged → Type 0
GivesBack inverse before after = FitsBack inverse after × (list_before inverse after ≡ before)

-- the record leads from the client x after a step back to the client y before it
pub record Restores (before : Before) (y x : Client) : Type 0 where
  pub back : reverted before x ≡ y
  pub fits : FitsBack before.inverse x.list
  pub state : FitsState before.change x
  pub revision : x.revision ≡ (if before.received then suc y.revision else y.revision)

-- the last message on the way to a client removed
abbrev pub unsent : View → View
unsent v = record { client = v.client; queue = take (length v.queue - 1) v.queue }

-- what is under way from the client at a place
abbrev pub message_in : Option View → Option Message
message_in None = None
message_in (Some v) = v.client.message

abbrev pub message_at : List View → ℕ → Option Message
message_at views c = message_in (slice_get views c)

-- the record of a step of client c that led from the earlier state to this one
pub record IsClientStep (c : ℕ) (before : Before) (earlier s : State) : Type 0 where
  pub was : Client
  pub is : Client
  pub at : slice_get earlier.clients c ≡ Some was
  pub led : s ≡ with_client earlier c is
  pub restores : Restores before was is

-- the record of a Take
pub record IsTaken (c : ℕ) (message : Sent Tagged) (inverse : Operation Tagged) (earlier s : State) : Type 0 where
  pub client : Client
  pub op : Operation Tagged
  pub at : slice_get earlier.clients c ≡ Some client
  pub message_is : client.message ≡ Some (message_of message)
  pub led : s ≡ taken earlier c client op
  pub undo : IsUndo (record { document = earlier.server; log = earlier.log }) (record { document = s.server; log = s.log }) inverse

-- the record of a Join
pub record IsJoined (c : ℕ) (earlier s : State) : Type 0 where
  pub is : Client
  pub at : slice_get earlier.clients c ≡ Some absent
  pub led : s ≡ with_client earlier c is

-- a read only counts
abbrev pub IsRead : State → State → Type 0
IsRead earlier s = s ≡ record { log = earlier.log; server = earlier.server; clients = earlier.clients; steps = suc earlier.steps }

abbrev pub IsStepOf : Record → State → State → Type 0
IsStepOf (ClientStep c before) earlier s = IsClientStep c before earlier s
IsStepOf (Taken c message inverse) earlier s = IsTaken c message inverse earlier s
IsStepOf (Joined c) earlier s = IsJoined c earlier s
IsStepOf Read earlier s = IsRead earlier s

-- the record is of a step that led from the earlier state, which is sound, to this one
pub record IsRecord (earlier s : State) (kept : Record) : Type 0 where
  pub sound : IsSound earlier
  pub step : IsStepOf kept earlier s

-- this undoes the step that led from the earlier state, which is sound, to this one
abbrev pub Undoes : State → State → Undo → Type 0
Undoes earlier s undo = IsRecord earlier s undo.step

-- there is such an earlier state
abbrev pub IsUndoable : State → Undo → Type 0
IsUndoable s undo = (earlier : State) × Undoes earlier s undo

abbrev pub IsUndoableRecord : State → Record → Type 0
IsUndoableRecord s kept = (earlier : State) × IsRecord earlier s kept

-- a record and the state after its step leave one state before it
abbrev pub RecordsDetermine : Type 0
RecordsDetermine = (s earlier other : State) (undo : Undo) → Undoes earlier s undo → Undoes other s undo → earlier ≡ other
