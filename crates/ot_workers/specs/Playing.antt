-- What a turn does with a session: the steps that it makes, and how far it comes where one of them is not made.
use Rattle.std.specs.Prelude.{◌≡◌, ℕ, ◌<◌, ◌⊎◌, Bool, true, false, List, [], ◌∷◌, ◌++◌, length, map, take, Option, Some, None}
use Rattle.std.specs.Option.{option_map}
use Rattle.ot_isa.specs.declared.instruction.Instr.{Instr}
use Rattle.ot_isa.specs.declared.instruction.Instr.TheVariants.{Edit, Deliver, Acknowledge, Read}
use Rattle.ot_operation.specs.Operation.{IsTooLong}
use Rattle.ot_model.specs.declared.shown.Refusal.TheVariants as table
use Rattle.ot_model.specs.Table.{Head, Ack, Op}
use Rattle.ot_model.specs.Part.{Part, Leads, PartRefused, part_row, run_part}
use Rattle.ot_model.specs.Session.{Session}
use Rattle.ot_plan.specs.Typing.{Action, action_view, edit_of}
use Rattle.ot_board.specs.Sessions.{IsNext}
use Rattle.ot_workers.specs.declared.fault.WorkFault.{WorkFault}
use Rattle.ot_workers.specs.declared.fault.WorkFault.TheVariants.{RecordFull, Stopped, Memory, Refused}
use Rattle.ot_workers.specs.declared.playing.Task.{Task}
use Rattle.ot_workers.specs.declared.playing.Task.TheVariants.{Enter, Read as Reads}
use Rattle.ot_model.specs.declared.limits.TheConstants.{SESSION_LIMIT}

-- the step that takes a message off the client's downlink
abbrev pub step_for : ℕ → Head → Instr
step_for c Ack = Acknowledge c
step_for c (Op h) = Deliver c

-- the first 60 messages of the session's part are delivered or acknowledged
abbrev pub heard : Session → List Instr
heard x = map (step_for x.start.number) (take 60 x.now.incoming)

-- the part to which these steps lead
abbrev pub part_after : List Instr → Part → Part
part_after steps p = elim (run_part steps (record { part = p; shown = [] })) [ Some q ↦ q.part | None ↦ p ]

-- the action is typed on the part's list, if there is one
abbrev pub typed_on : ℕ → Part → Option Action → List Instr
typed_on c p None = []
typed_on c p (Some a) = Edit c (edit_of a (length p.client.list)) ∷ []

-- the steps of a turn: one read, or the messages and then the action
abbrev pub turn_steps : Session → Task → List Instr
turn_steps x Reads = Read x.start.number ∷ []
turn_steps x (Enter action) = heard x ++ typed_on x.start.number (part_after (heard x) x.now) (option_map (λ t. action_view t.now) action)

-- a turn that receives and types
abbrev pub is_enter : Task → Bool
is_enter Reads = false
is_enter (Enter action) = true

-- messages are received in a session without steps, since it makes at most 64
abbrev pub MayPlay : Session → Task → Type 0
MayPlay x task = is_enter task ≡ true → length x.steps ≡ 0

-- the session after these further steps
pub record HasMade (x : Session) (steps : List Instr) (y : Session) : Type 0 where
  pub start : y.start ≡ x.start
  pub steps_are : y.steps ≡ x.steps ++ steps
  pub leads : Leads x.now steps y.now

-- the session after its next message
pub record HasHeard (x y : Session) : Type 0 where
  pub head : Head
  pub incoming_is : x.now.incoming ≡ head ∷ y.now.incoming
  pub next : IsNext x (step_for x.start.number head) None y

-- the action's edit is not made: it would make the list longer than any may be, or the client has inserted too much
abbrev pub IsUntypable : Session → Action → Type 0
IsUntypable x a =
    IsTooLong (edit_of a (length x.now.client.list))
    ⊎ (part_row x.now (Edit x.start.number (edit_of a (length x.now.client.list))) ≡ PartRefused table.ClientFull)

-- why an action is not typed
abbrev pub IsEnterFault : Session → Action → WorkFault → Type 0
IsEnterFault x a RecordFull = ⊥
IsEnterFault x a Stopped = ⊥
IsEnterFault x a Memory = Unit {0}
IsEnterFault x a Refused = IsUntypable x a

-- a read is refused in a session of 64 steps alone, and of a turn that receives and types, the typing alone
abbrev pub IsRefused : Session → Task → Session → Type 0
IsRefused x Reads y = length x.steps ≡ SESSION_LIMIT
IsRefused x (Enter None) y = ⊥
IsRefused x (Enter (Some t)) y = HasMade x (heard x) y × IsUntypable y (action_view t.now)

-- why a turn ends before its last step
abbrev pub IsPlayFault : Session → Task → Session → WorkFault → Type 0
IsPlayFault x task y RecordFull = ⊥
IsPlayFault x task y Stopped = ⊥
IsPlayFault x task y Memory = Unit {0}
IsPlayFault x task y Refused = IsRefused x task y

-- a turn that ends before its last step: the session after the steps that were made
pub record IsCutShort (x : Session) (steps : List Instr) (y : Session) : Type 0 where
  pub count : ℕ
  pub short : count < length steps
  pub made : HasMade x (take count steps) y
