-- A client off the table, with a copy of its downlink: a part, and the rows of its client on it. They are the table's, with the
-- part's own messages as the downlink, and they read and change nothing but the part.
use Rattle.std.specs.Prelude.{◌≡◌, ℕ, ◌+◌, List, [], ◌∷◌, length, ◌==◌, nat_lt, not, if◌then◌else◌, Option, Some, None}
use Rattle.ot_isa.specs.declared.instruction.Instr.{Instr}
use Rattle.ot_isa.specs.declared.instruction.Instr.TheVariants.{Edit, Take, Deliver, Acknowledge, Read, Join, ReadServer}
use Rattle.ot_model.specs.declared.shown.Refusal.{Refusal}
use Rattle.ot_model.specs.declared.shown.Refusal.TheVariants.{BadBase, ClientFull, LinkEmpty, WrongHead}
use Rattle.ot_model.specs.declared.shown.Reader.TheVariants as reader
use Rattle.ot_model.specs.declared.shown.Shown.{Shown}
use Rattle.ot_model.specs.Operation.{Operation, inserted}
use Rattle.ot_model.specs.Table.{Client, State, Head, Ack, Op, downlink, edited, delivered, acknowledged, tag_operation, with_shown}
use Rattle.ot_isa.specs.declared.tagging.TheConstants.{INSERTED_LIMIT}

-- a client by its number, the messages that are left of its copy of the downlink, and as the client's message the one that it sent
-- here, if it sent one
pub record Part : Type 0 where
  pub number : ℕ
  pub client : Client
  pub incoming : List Head

-- a client with no message of its own
abbrev pub silent : Client → Client
silent x = record { revision = x.revision; phase = x.phase; list = x.list; count = x.count; message = None }

-- client c as it is in the state, with its whole downlink and nothing sent
abbrev pub part_of : State → ℕ → Client → Part
part_of s c x = record { number = c; client = silent x; incoming = downlink s c x }

-- what an instruction comes to on a part; PartNoRow is another's instruction, a Take, a Join, or an acknowledgement in Synchronized
pub data PartOutcome : Type 0 where
  PartPerformed : Part → Option Shown → PartOutcome
  PartRefused : Refusal → PartOutcome
  PartNoRow : PartOutcome

-- the part with its client changed and these messages left
abbrev pub with_part : Part → Client → List Head → Part
with_part p x incoming = record { number = p.number; client = x; incoming = incoming }

-- Edit: as in the table
abbrev pub part_edit : Part → Operation ℕ → PartOutcome
part_edit p op =
    if not (op.base == length p.client.list) then PartRefused BadBase
    else if nat_lt INSERTED_LIMIT (p.client.count + inserted op) then PartRefused ClientFull
    else PartPerformed (with_part p (edited p.client (tag_operation p.number p.client.count op)) p.incoming) None

-- Deliver: the first message has to be another's operation
abbrev pub part_deliver : Part → List Head → PartOutcome
part_deliver p [] = PartRefused LinkEmpty
part_deliver p (Ack ∷ incoming) = PartRefused WrongHead
part_deliver p (Op h ∷ incoming) = PartPerformed (with_part p (delivered p.client h) incoming) None

abbrev pub part_with : Part → Option Client → List Head → PartOutcome
part_with p None incoming = PartNoRow
part_with p (Some x) incoming = PartPerformed (with_part p x incoming) None

-- Acknowledge: the first message has to be an acknowledgement
abbrev pub part_acknowledge : Part → List Head → PartOutcome
part_acknowledge p [] = PartRefused LinkEmpty
part_acknowledge p (Op h ∷ incoming) = PartRefused WrongHead
part_acknowledge p (Ack ∷ incoming) = part_with p (acknowledged p.client p.client.phase) incoming

-- Read: the part's list is shown
abbrev pub part_read : Part → PartOutcome
part_read p = PartPerformed p (Some (record { who = reader.Client p.number; list = p.client.list }))

-- a row of the part's own client
abbrev pub if_own : Part → ℕ → PartOutcome → PartOutcome
if_own p c outcome = if c == p.number then outcome else PartNoRow

-- the row of an instruction on a part
abbrev pub part_row : Part → Instr → PartOutcome
part_row p (Edit c op) = if_own p c (part_edit p op)
part_row p (Take c) = PartNoRow
part_row p (Deliver c) = if_own p c (part_deliver p p.incoming)
part_row p (Acknowledge c) = if_own p c (part_acknowledge p p.incoming)
part_row p (Join c) = PartNoRow
part_row p (Read c) = if_own p c (part_read p)
part_row p ReadServer = PartNoRow

-- a part with the lists shown so far
pub record PartPlace : Type 0 where
  pub part : Part
  pub shown : List Shown

-- where the instructions lead to on a part, if each of them is performed
abbrev pub run_part : List Instr → PartPlace → Option PartPlace
run_part [] p = Some p
run_part (i ∷ is) p =
    elim (part_row p.part i) [
      | PartPerformed q list ↦ run_part is (record { part = q; shown = with_shown p.shown list })
      | PartRefused r ↦ None
      | PartNoRow ↦ None
    ]

-- the rows lead from a part by the steps to a part, and show these lists
abbrev pub LeadsShowing : Part → List Instr → Part → List Shown → Type 0
LeadsShowing p steps q shown = run_part steps (record { part = p; shown = [] }) ≡ Some (record { part = q; shown = shown })

-- the rows lead from a part by the steps to a part, none refused
abbrev pub Leads : Part → List Instr → Part → Type 0
Leads p steps q = (shown : List Shown) × LeadsShowing p steps q shown
