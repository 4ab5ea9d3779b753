-- What a board is, and what its calls make of it.
use Rattle.std.specs.Prelude.{◌≡◌, ℕ, ◌+◌, ◌*◌, ◌<◌, ◌≤◌, Bool, true, false, List, ◌++◌, length, map, set, take, replicate, slice_get, count_by, Option, Some, None}
use Rattle.std.specs.Option.{option_map}
use Rattle.ot_isa.specs.declared.instruction.Instr.{Instr}
use Rattle.ot_isa.specs.declared.instruction.Instr.TheVariants.{Take, Join}
use Rattle.ot_isa.specs.Program.{Program}
use Rattle.ot_isa.specs.Program as program
use Rattle.ot_model.specs.declared.shown.Refusal.{Refusal}
use Rattle.ot_model.specs.declared.shown.Refusal.TheVariants as table
use Rattle.ot_model.specs.Table.{State, is_joined, opening, step, Refused}
use Rattle.ot_model.specs.Runs.{opening_of}
use Rattle.ot_model.specs.Session.{Session, Begins, IsPartIn, RunsTo}
use Rattle.ot_machine.specs.Answers.{IsPerformed}
use Rattle.ot_machine.specs.Ended.{IsRun}
use Rattle.ot_machine.specs.Readers.{ClientHas}
use Rattle.ot_machine.specs.declared.outcome.Run.{Run}
use Rattle.ot_board.specs.declared.lent.Lent.{Lent}
use Rattle.ot_board.specs.declared.receipt.Receipt.{Receipt}
use Rattle.ot_board.specs.declared.receipt.Replayed.{Replayed}
use Rattle.ot_board.specs.declared.refusal.BoardRefusal.{BoardRefusal}
use Rattle.ot_board.specs.declared.refusal.BoardRefusal.TheVariants.{NoSuchClient, NotJoined, AlreadyJoined, Out, NotParked, RecordFull, LinkEmpty, Memory}
use Rattle.ot_board.specs.declared.refusal.SettleRefusal.{SettleRefusal}
use Rattle.ot_board.specs.declared.refusal.SettleRefusal.TheVariants as settle
use Rattle.ot_board.specs.Lents.{session_of}
use Rattle.ot_board.specs.Sessions.{begun}
use Rattle.ot_isa.specs.declared.builder.TheConstants.{INSTR_LIMIT}
use Rattle.ot_model.specs.declared.limits.TheConstants.{SESSION_LIMIT}

-- a board: its opening and what was recorded, the machine's state, which clients are out, and the session that waits in each client's slot
pub record BoardView : Type 0 where
  pub recorded : Program
  pub state : State
  pub out : List Bool
  pub parked : List (Option Session)

abbrev pub board_in : State → Program → List Bool → List (Option Lent) → BoardView
board_in state recorded out slots =
    record { recorded = recorded; state = state; out = out; parked = map (option_map session_of) slots }

-- how many clients are out
abbrev pub outside : List Bool → ℕ
outside out = count_by (λ b. b) out

-- a session waits in the slot of its own client, which is out
abbrev pub AreWaiting : List Bool → List (Option Session) → Type 0
AreWaiting out parked = (c : ℕ) (x : Session) → slice_get parked c ≡ Some (Some x) → (slice_get out c ≡ Some true) × (x.start.number ≡ c)

-- the type invariant of boards: the machine is the table's run of the recorded instructions from the opening, and there is room in the
-- record for 64 steps of each client that is out
pub record IsBoard (b : BoardView) : Type 0 where
  pub replays : RunsTo (opening_of b.recorded) b.recorded.instrs b.state
  pub fits : length b.recorded.instrs + SESSION_LIMIT * outside b.out ≤ INSTR_LIMIT
  pub counted : b.state.steps ≡ length b.recorded.instrs
  pub clients : length b.state.clients ≡ b.recorded.clients
  pub outs : length b.out ≡ b.recorded.clients
  pub slots : length b.parked ≡ b.recorded.clients
  pub waiting : AreWaiting b.out b.parked

-- a board with nothing recorded and nobody out
abbrev pub fresh : ℕ → ℕ → List ℕ → BoardView
fresh clients present start =
    record {
      recorded = program.opening clients present start;
      state = opening clients present start;
      out = replicate clients false;
      parked = replicate clients None;
    }

abbrev pub with_out : BoardView → ℕ → Bool → BoardView
with_out b c now = record { recorded = b.recorded; state = b.state; out = set b.out c now; parked = b.parked }

abbrev pub with_parked : BoardView → ℕ → Option Session → BoardView
with_parked b c now = record { recorded = b.recorded; state = b.state; out = b.out; parked = set b.parked c now }

abbrev pub with_steps : Program → List Instr → Program
with_steps p steps = record { clients = p.clients; present = p.present; start = p.start; instrs = p.instrs ++ steps }

-- the steps are appended to the record and performed, the receipt says where they stand, and these clients are out
pub record IsRecorded (b : BoardView) (steps : List Instr) (out : List Bool) (a : BoardView) (r : Receipt) : Type 0 where
  pub first : r.first ≡ length b.recorded.instrs
  pub steps_are : r.steps.items ≡ steps
  pub recorded : a.recorded ≡ with_steps b.recorded steps
  pub ran : RunsTo b.state steps a.state
  pub out_is : a.out ≡ out
  pub parked_is : a.parked ≡ b.parked

-- so many more steps fit into the record
abbrev pub HasRoomFor : BoardView → ℕ → Type 0
HasRoomFor b count = length b.recorded.instrs + SESSION_LIMIT * outside b.out + count ≤ INSTR_LIMIT

abbrev pub IsJoined : BoardView → ℕ → Bool → Type 0
IsJoined b c on = ClientHas b.state c (λ x. is_joined x.phase) on

-- why a take or a join is not recorded; out of memory only where it would be
abbrev pub IsTakeRefusal : BoardView → ℕ → BoardRefusal → Type 0
IsTakeRefusal b c NoSuchClient = b.recorded.clients ≤ c
IsTakeRefusal b c NotJoined = IsJoined b c false
IsTakeRefusal b c RecordFull = IsJoined b c true × (HasRoomFor b 1 → ⊥)
IsTakeRefusal b c LinkEmpty = IsJoined b c true × HasRoomFor b 1 × (step b.state (Take c) ≡ Refused table.LinkEmpty)
IsTakeRefusal b c Memory = IsJoined b c true × HasRoomFor b 1 × IsPerformed (step b.state (Take c))
IsTakeRefusal b c AlreadyJoined = ⊥
IsTakeRefusal b c Out = ⊥
IsTakeRefusal b c NotParked = ⊥

abbrev pub IsJoinRefusal : BoardView → ℕ → BoardRefusal → Type 0
IsJoinRefusal b c NoSuchClient = b.recorded.clients ≤ c
IsJoinRefusal b c AlreadyJoined = IsJoined b c true
IsJoinRefusal b c RecordFull = IsJoined b c false × (HasRoomFor b 1 → ⊥)
IsJoinRefusal b c Memory = IsJoined b c false × HasRoomFor b 1 × IsPerformed (step b.state (Join c))
IsJoinRefusal b c NotJoined = ⊥
IsJoinRefusal b c Out = ⊥
IsJoinRefusal b c NotParked = ⊥
IsJoinRefusal b c LinkEmpty = ⊥

-- why a client is not lent
abbrev pub IsLendRefusal : BoardView → ℕ → BoardRefusal → Type 0
IsLendRefusal b c NoSuchClient = b.recorded.clients ≤ c
IsLendRefusal b c NotJoined = IsJoined b c false
IsLendRefusal b c Out = IsJoined b c true × (slice_get b.out c ≡ Some true)
IsLendRefusal b c RecordFull = IsJoined b c true × (slice_get b.out c ≡ Some false) × (HasRoomFor b SESSION_LIMIT → ⊥)
IsLendRefusal b c Memory = IsJoined b c true × (slice_get b.out c ≡ Some false) × HasRoomFor b SESSION_LIMIT
IsLendRefusal b c AlreadyJoined = ⊥
IsLendRefusal b c NotParked = ⊥
IsLendRefusal b c LinkEmpty = ⊥

-- a session without steps, whose start is the client as it is
pub record IsBegun (s : State) (c : ℕ) (x : Session) : Type 0 where
  pub number : x.start.number ≡ c
  pub part : IsPartIn s x.start
  pub begun_is : x ≡ begun x.start

-- the session's client is out here, is not parked, and is as the session's start
abbrev pub IsHere : BoardView → Session → Type 0
IsHere b x = (slice_get b.out x.start.number ≡ Some true) × (slice_get b.parked x.start.number ≡ Some None) × Begins x.start b.state

abbrev pub IsSettleRefusal : BoardView → Session → SettleRefusal → Type 0
IsSettleRefusal b x settle.Stranger = IsHere b x → ⊥
IsSettleRefusal b x settle.Memory = IsHere b x

-- the session's client is out here and is not parked
abbrev pub IsAwaited : BoardView → Session → Type 0
IsAwaited b x = (slice_get b.out x.start.number ≡ Some true) × (slice_get b.parked x.start.number ≡ Some None)

-- why none of a session's steps is performed here
abbrev pub IsReplayRefusal : BoardView → Session → SettleRefusal → Type 0
IsReplayRefusal b x settle.Stranger = IsAwaited b x → ⊥
IsReplayRefusal b x settle.Memory = IsAwaited b x

-- the machine's refusal of a step: out of memory, or the table's
abbrev pub stop_of : Refusal → SettleRefusal
stop_of table.NoSuchClient = settle.Stranger
stop_of table.StepsFull = settle.Stranger
stop_of table.NotJoined = settle.Stranger
stop_of table.AlreadyJoined = settle.Stranger
stop_of table.BadBase = settle.Stranger
stop_of table.ClientFull = settle.Stranger
stop_of table.LinkEmpty = settle.Stranger
stop_of table.WrongHead = settle.Stranger
stop_of table.Memory = settle.Memory

-- the steps from one on are not performed: the table refuses it, or would perform it and memory ran out
abbrev pub IsStopAt : State → List Instr → ℕ → SettleRefusal → Type 0
IsStopAt s steps count settle.Stranger = (i : Instr) × (r : Refusal) × (slice_get steps count ≡ Some i) × (step s i ≡ Refused r)
IsStopAt s steps count settle.Memory = (i : Instr) × (slice_get steps count ≡ Some i) × IsPerformed (step s i)

-- after so many of the steps, in this state, none is left, or the next one is not performed
abbrev pub IsStop : State → List Instr → ℕ → Option SettleRefusal → Type 0
IsStop s steps count None = count ≡ length steps
IsStop s steps count (Some refusal) = IsStopAt s steps count refusal

-- the first of the session's steps are performed and recorded, as many as the machine performs, and the client is in
pub record IsReplayed (b : BoardView) (x : Session) (a : BoardView) (r : Replayed) : Type 0 where
  pub count : ℕ
  pub recorded : IsRecorded b (take count x.steps) (set b.out x.start.number false) a r.receipt
  pub stop : IsStop a.state x.steps count r.stopped

-- why no session is picked up
abbrev pub IsPickUpRefusal : BoardView → ℕ → BoardRefusal → Type 0
IsPickUpRefusal b c NoSuchClient = b.recorded.clients ≤ c
IsPickUpRefusal b c NotParked = slice_get b.parked c ≡ Some None
IsPickUpRefusal b c NotJoined = ⊥
IsPickUpRefusal b c AlreadyJoined = ⊥
IsPickUpRefusal b c Out = ⊥
IsPickUpRefusal b c RecordFull = ⊥
IsPickUpRefusal b c LinkEmpty = ⊥
IsPickUpRefusal b c Memory = ⊥

-- the client is the least that is out
pub record IsLeastOut (out : List Bool) (c : ℕ) : Type 0 where
  pub here : slice_get out c ≡ Some true
  pub before : (d : ℕ) → d < c → slice_get out d ≡ Some true → ⊥

-- nobody is out
abbrev pub AreIn : List Bool → Type 0
AreIn out = (c : ℕ) → slice_get out c ≡ Some true → ⊥

-- what a finished board gives: what was recorded, and the machine to which it leads from the opening
pub record IsFinished (b : BoardView) (schedule : Program) (machine : State) : Type 0 where
  pub schedule_is : schedule ≡ b.recorded
  pub machine_is : machine ≡ b.state
  pub replays : RunsTo (opening_of schedule) schedule.instrs machine
  pub nobody : AreIn b.out

-- where a run of a schedule ends that stops before its end only if memory runs out
abbrev pub EndsIn : Option (ℕ × Refusal) → State → State → Type 0
EndsIn None reached state = reached ≡ state
EndsIn (Some stop) reached state = stop.1 ≡ table.Memory

-- each run of the schedule ends in this state, or before it if memory runs out
abbrev pub RunsEndIn : Program → State → Type 0
RunsEndIn s state = (run : Run) → IsRun s run → EndsIn run.stopped run.machine state
