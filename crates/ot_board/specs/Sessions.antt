-- The program's sessions as the model's, and what their calls make of them.
use Rattle.std.specs.Prelude.{◌≡◌, ℕ, ◌+◌, ◌<◌, ◌≤◌, map, length, List, [], ◌∷◌, ◌++◌, Option}
use Rattle.ot_isa.specs.declared.elements.Tagged.{Tagged}
use Rattle.ot_isa.specs.declared.instruction.Instr.{Instr}
use Rattle.ot_client.specs.State as state
use Rattle.ot_client.specs.declared.sent.Sent.{Sent}
use Rattle.ot_model.specs.declared.shown.Refusal.TheVariants as table
use Rattle.ot_model.specs.declared.shown.Shown.{Shown}
use Rattle.ot_model.specs.declared.shown.Reader.TheVariants as reader
use Rattle.ot_model.specs.Operation.{Operation, IsOperation, inserted}
use Rattle.std.specs.Option.{option_map}
use Rattle.ot_client.specs.Client.{message_of}
use Rattle.ot_model.specs.Table.{Client, Head, phase_in}
use Rattle.ot_model.specs.Part as model
use Rattle.ot_model.specs.Part.{PartOutcome, PartPerformed, PartRefused, PartNoRow, part_row}
use Rattle.ot_model.specs.Session.{Session}
use Rattle.ot_machine.specs.declared.part.Part.{Part}
use Rattle.ot_machine.specs.declared.part.Message.{Message}
use Rattle.ot_machine.specs.Parts.{part_in, head_in}
use Rattle.ot_board.specs.declared.refusal.SessionRefusal.{SessionRefusal}
use Rattle.ot_board.specs.declared.refusal.SessionRefusal.TheVariants.{BadBase, ClientFull, SessionFull, LinkEmpty, WrongHead, Memory}
use Rattle.ot_isa.specs.declared.tagging.TheConstants.{INSERTED_LIMIT}
use Rattle.ot_model.specs.declared.limits.TheConstants.{SESSION_LIMIT}

-- a client's state with its list, its count and what it has sent, as the table's client
abbrev pub client_in : state.State Tagged → List Tagged → ℕ → Option (Sent Tagged) → Client
client_in client list count sent =
    record { revision = client.revision; phase = phase_in client.phase; list = list; count = count; message = option_map message_of sent }

-- a client in this state as a part
abbrev pub present_part : ℕ → state.State Tagged → List Tagged → ℕ → List Message → Option (Sent Tagged) → model.Part
present_part number client list count incoming sent =
    record { number = number; client = client_in client list count sent; incoming = map head_in incoming }

-- the session that begins with this part
abbrev pub begun : model.Part → Session
begun start = record { start = start; steps = []; now = start }

-- a session of a client in this state
abbrev pub session_in : Part → List Instr → state.State Tagged → List Tagged → ℕ → List Message → Option (Sent Tagged) → Session
session_in start steps client list count incoming sent =
    record {
      start = part_in start;
      steps = steps;
      now = present_part start.number client list count incoming sent;
    }

-- the session after one more step, which shows this list
pub record IsNext (x : Session) (i : Instr) (shown : Option Shown) (y : Session) : Type 0 where
  pub start : y.start ≡ x.start
  pub steps : y.steps ≡ x.steps ++ i ∷ []
  pub row : part_row x.now i ≡ PartPerformed y.now shown

-- the list that a read of the session's client shows
abbrev pub shown_by : Session → List Tagged → Shown
shown_by x list = record { who = reader.Client x.start.number; list = list }

-- the row on the part performs
abbrev pub IsPartPerformed : PartOutcome → Type 0
IsPartPerformed (PartPerformed p shown) = Unit {0}
IsPartPerformed (PartRefused r) = ⊥
IsPartPerformed PartNoRow = ⊥

-- why an edit is not made: as on the part, and then since there is no 65th step; out of memory only where it would be made
abbrev pub IsEditRefusal : Session → Instr → SessionRefusal → Type 0
IsEditRefusal x i BadBase = part_row x.now i ≡ PartRefused table.BadBase
IsEditRefusal x i ClientFull = part_row x.now i ≡ PartRefused table.ClientFull
IsEditRefusal x i SessionFull = IsPartPerformed (part_row x.now i) × (length x.steps ≡ SESSION_LIMIT)
IsEditRefusal x i LinkEmpty = ⊥
IsEditRefusal x i WrongHead = ⊥
IsEditRefusal x i Memory = IsPartPerformed (part_row x.now i) × (length x.steps < SESSION_LIMIT)

-- why another step is not made: since there is no 65th step, and then as on the part; out of memory only where it would be made
abbrev pub IsStepRefusal : Session → Instr → SessionRefusal → Type 0
IsStepRefusal x i BadBase = ⊥
IsStepRefusal x i ClientFull = ⊥
IsStepRefusal x i SessionFull = length x.steps ≡ SESSION_LIMIT
IsStepRefusal x i LinkEmpty = (length x.steps < SESSION_LIMIT) × (part_row x.now i ≡ PartRefused table.LinkEmpty)
IsStepRefusal x i WrongHead = (length x.steps < SESSION_LIMIT) × (part_row x.now i ≡ PartRefused table.WrongHead)
IsStepRefusal x i Memory = (length x.steps < SESSION_LIMIT) × IsPartPerformed (part_row x.now i)

-- the edit of this operation would be made
pub record MayEdit (x : Session) (op : Operation ℕ) : Type 0 where
  pub rises : IsOperation op
  pub base : op.base ≡ length x.now.client.list
  pub count : x.now.client.count + inserted op ≤ INSERTED_LIMIT
  pub room : length x.steps < SESSION_LIMIT

-- there is room for a step, and this message is the next
pub record IsNextHead (x : Session) (head : Head) : Type 0 where
  pub room : length x.steps < SESSION_LIMIT
  pub rest : List Head
  pub incoming_is : x.now.incoming ≡ head ∷ rest
