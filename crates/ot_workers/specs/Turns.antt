-- What a turn comes to under the lock.
use Rattle.std.specs.Prelude.{◌≡◌, ◌↔◌, ◌⊎◌, ℕ, ◌+◌, ◌-◌, ◌^◌, ◌%◌, ◌==◌, ◌&&◌, ◌<◌, nat_lt, min, Bool, true, false, IsTrue, List, [], ◌∷◌, length, map, set, slice_get, slice_index_or, Option, Some, None, is_some}
use Rattle.std.specs.Prelude.{Vec}
use Rattle.std.specs.declared.alloc.Global.{Global}
use Rattle.std.specs.List.{list_any}
use Rattle.ot_isa.specs.declared.instruction.Instr.TheVariants.{Join as Joins, Take as Takes}
use Rattle.ot_model.specs.Table.{Client, State, downlink, is_joined}
use Rattle.ot_model.specs.Session.{Session}
use Rattle.ot_machine.specs.Readers.{ClientHas}
use Rattle.ot_plan.specs.declared.typing.Typing.{Typing}
use Rattle.ot_board.specs.declared.receipt.Receipt.{Receipt}
use Rattle.ot_board.specs.declared.receipt.Replayed.{Replayed}
use Rattle.ot_board.specs.declared.refusal.SettleRefusal.{SettleRefusal}
use Rattle.ot_board.specs.declared.refusal.SettleRefusal.TheVariants as settle
use Rattle.ot_board.specs.Boards.{BoardView, HasRoomFor, IsBegun, IsHere, IsRecorded, IsReplayed, IsReplayRefusal, with_out, with_parked, with_steps}
use Rattle.ot_board.specs.Lents.{session_of}
use Rattle.ot_workers.specs.Choosing.{choice, IsTaskFor}
use Rattle.ot_workers.specs.Faults.{settle_fault}
use Rattle.ot_workers.specs.Playing.{is_enter}
use Rattle.ot_workers.specs.Receipts.{IsSettled}
use Rattle.ot_workers.specs.declared.choosing.Seat.{Seat}
use Rattle.ot_workers.specs.declared.choosing.Way.{Way}
use Rattle.ot_workers.specs.declared.choosing.Way.TheVariants.{PickUp, Lend, Join}
use Rattle.ot_workers.specs.declared.fault.WorkFault.{WorkFault}
use Rattle.ot_workers.specs.declared.fault.WorkFault.TheVariants.{RecordFull, Stopped, Memory, Refused}
use Rattle.ot_workers.specs.declared.held.Held.{Held}
use Rattle.ot_workers.specs.declared.playing.Task.{Task}
use Rattle.ot_workers.specs.declared.playing.Task.TheVariants.{Enter, Read}
use Rattle.ot_workers.specs.declared.shared.Inside.{Inside}
use Rattle.ot_workers.specs.declared.turns.Ended.{Ended}
use Rattle.ot_workers.specs.declared.turns.Ended.TheVariants.{Settled, Parked, Fault}
use Rattle.ot_workers.specs.declared.turns.Next.{Next}
use Rattle.ot_workers.specs.declared.turns.Next.TheVariants.{Play, Wait, End}
use Rattle.ot_model.specs.declared.limits.TheConstants.{SESSION_LIMIT}

-- the worker holds a session
abbrev pub IsPlay : Next → Type 0
IsPlay (Play held) = Unit {0}
IsPlay Wait = ⊥
IsPlay (End fault) = ⊥

-- no message of the client is under way to the server
abbrev pub IsUplinkEmpty : State → ℕ → Type 0
IsUplinkEmpty s c = (x : Client) → slice_get s.clients c ≡ Some x → x.message ≡ None

abbrev pub AreUplinksEmpty : State → Type 0
AreUplinksEmpty s = (c : ℕ) → IsUplinkEmpty s c

-- the client's next action to type, if there is one: of each client's actions so many are typed
abbrev pub action_after : List (Vec Typing Global) → Option ℕ → ℕ → Option Typing
action_after typing None c = None
action_after typing (Some done) c = elim (slice_get typing c) [ Some actions ↦ slice_get actions.items done | None ↦ None ]

abbrev pub next_action : List (Vec Typing Global) → List ℕ → ℕ → Option Typing
next_action typing typed c = action_after typing (slice_get typed c) c

-- what is seen of a client is what the board has of it, and whether its user has an action that is not typed
pub record IsSeen (b : BoardView) (untyped : Bool) (c : ℕ) (s : Seat) : Type 0 where
  pub joined : ClientHas b.state c (λ x. is_joined x.phase) s.joined
  pub message : ClientHas b.state c (λ x. nat_lt 0 (length (downlink b.state c x))) s.message
  pub out : slice_get b.out c ≡ Some s.out
  pub parked : IsTrue s.parked ↔ (slice_get b.parked c ≡ Some None → ⊥)
  pub untyped_is : s.untyped ≡ untyped

abbrev pub AreSeen : BoardView → List (Vec Typing Global) → List ℕ → List Seat → Type 0
AreSeen b typing typed seats =
    (c : ℕ) (s : Seat) → c < length b.state.clients → slice_get seats c ≡ Some s → IsSeen b (is_some (next_action typing typed c)) c s

-- the server takes clients' messages, one after another, and nothing else is done
pub record AreTaken (b a : BoardView) : Type 0 where
  pub takes : List ℕ
  pub recorded : a.recorded ≡ with_steps b.recorded (map Takes takes)
  pub out_is : a.out ≡ b.out
  pub parked_is : a.parked ≡ b.parked

-- the stop mark was not set; messages were taken, and nothing else was done, until all uplinks were empty; and the seats show the board's clients, one each
pub record IsLookedAt (typing : List (Vec Typing Global)) (i : Inside) (seats : List Seat) (b : BoardView) : Type 0 where
  pub going : i.stopped ≡ false
  pub takes : AreTaken i.board b
  pub taken : AreUplinksEmpty b.state
  pub counts : length i.typed.items ≡ b.recorded.clients
  pub places : length seats ≡ b.recorded.clients
  pub seen : AreSeen b typing i.typed.items seats

-- some client is out
abbrev pub is_any_out : List Seat → Bool
is_any_out seats = list_any (λ s. s.out) seats

-- the client is lent
abbrev pub IsLent : BoardView → ℕ → Session → BoardView → Type 0
IsLent b c x a = IsBegun b.state c x × (a ≡ with_out b c true)

-- the client joins
abbrev pub HasJoined : BoardView → ℕ → BoardView → Type 0
HasJoined b c a = (r : Receipt) × IsRecorded b (Joins c ∷ []) b.out a r

-- the client's session is had this way: it is picked up where it waits, or the client is lent, joined before or not
abbrev pub IsHadFrom : BoardView → ℕ → Way → Session → BoardView → Type 0
IsHadFrom b c PickUp x a = (slice_get b.parked c ≡ Some (Some x)) × (a ≡ with_parked b c None)
IsHadFrom b c Lend x a = IsLent b c x a
IsHadFrom b c Join x a = (m : BoardView) × HasJoined b c m × IsLent m c x a

-- worker w holds in its turn k the session of the client that is its choice among the clients as they were seen; i is what lay under the lock before, and j after
pub record IsChosen (typing : List (Vec Typing Global)) (w k : ℕ) (i j : Inside) (held : Held) : Type 0 where
  pub board : BoardView
  pub looked : IsLookedAt typing i j.seats.items board
  pub client : ℕ
  pub way : Way
  pub chosen : choice j.seats.items w k ≡ Some (client, way)
  pub had : IsHadFrom board client way (session_of held.lent) j.board
  pub task : IsTaskFor way (next_action typing i.typed.items client) held.task

-- no client can be had
pub record IsNobody (typing : List (Vec Typing Global)) (w k : ℕ) (i j : Inside) : Type 0 where
  pub looked : IsLookedAt typing i j.seats.items j.board
  pub nobody : choice j.seats.items w k ≡ None

-- the chosen client has joined, and is not lent; the board was i's, and is a now
pub record HasJoinedAlone (typing : List (Vec Typing Global)) (w k : ℕ) (i : Inside) (seats : List Seat) (a : BoardView) : Type 0 where
  pub board : BoardView
  pub looked : IsLookedAt typing i seats board
  pub client : ℕ
  pub chosen : choice seats w k ≡ Some (client, Join)
  pub joined : HasJoined board client a

-- a fault under the lock: 64 more steps may not fit into the record, or memory ran out
abbrev pub IsShortage : BoardView → WorkFault → Type 0
IsShortage b RecordFull = HasRoomFor b SESSION_LIMIT → ⊥
IsShortage b Memory = Unit {0}
IsShortage b Stopped = ⊥
IsShortage b Refused = ⊥

-- the stop mark was set, and nothing is done; or there is a shortage, some messages are taken, the chosen client may have joined, and nothing else is done
abbrev pub IsNotBegun : List (Vec Typing Global) → ℕ → ℕ → Inside → List Seat → BoardView → WorkFault → Type 0
IsNotBegun typing w k i seats a fault =
    (fault ≡ Stopped) × (i.stopped ≡ true) × (a ≡ i.board)
    ⊎ (i.stopped ≡ false) × (AreTaken i.board a ⊎ HasJoinedAlone typing w k i seats a) × IsShortage a fault

-- where no client can be obtained, worker w waits in its turn k if somebody is out, and ends if nobody is
abbrev pub IsNextOf : List (Vec Typing Global) → ℕ → ℕ → Inside → Inside → Next → Type 0
IsNextOf typing w k i j (Play held) = IsChosen typing w k i j held
IsNextOf typing w k i j Wait = IsNobody typing w k i j × (is_any_out j.seats.items ≡ true)
IsNextOf typing w k i j (End None) = IsNobody typing w k i j × (is_any_out j.seats.items ≡ false)
IsNextOf typing w k i j (End (Some fault)) = IsNotBegun typing w k i j.seats.items j.board fault

-- a worker that ends with a fault leaves the stop mark set, and no other changes it
abbrev pub IsMarked : Next → Bool → Bool → Type 0
IsMarked (Play held) before after = after ≡ before
IsMarked Wait before after = after ≡ before
IsMarked (End None) before after = after ≡ before
IsMarked (End (Some fault)) before after = after ≡ true

-- a session that was lent is parked in each fourth turn
abbrev pub parks : ℕ → Task → Bool
parks turn task = turn % 4 == 3 && is_enter task

-- a turn that ends without a fault has parked its session, or settled it
abbrev pub EndsAs : Bool → Ended → Type 0
EndsAs parked Settled = parked ≡ false
EndsAs parked Parked = parked ≡ true
EndsAs parked (Fault fault) = Unit {0}

-- the first of the session's steps are recorded, as many as the board's machine performs, and its client is in
abbrev pub IsSettledInPart : Session → BoardView → BoardView → SettleRefusal → Type 0
IsSettledInPart x b a refusal = (r : Replayed) × IsReplayed b x a r × (r.stopped ≡ Some refusal)

-- why a session is not settled; where it is as it was lent, only for memory: it is refused at once, and the board is as it was, or it is settled in part
pub record IsUnsettled (x : Session) (b a : BoardView) (fault : WorkFault) : Type 0 where
  pub refusal : SettleRefusal
  pub fault_is : fault ≡ settle_fault refusal
  pub here : IsHere b x → refusal ≡ settle.Memory
  pub left : IsReplayRefusal b x refusal × (a ≡ b) ⊎ IsSettledInPart x b a refusal

-- a turn that was played to its end ends with a fault only where its session is not settled; after a fault of the play, which is the turn's, the session is settled too, if that can be done
abbrev pub IsEndFault : Option WorkFault → Session → BoardView → BoardView → WorkFault → Type 0
IsEndFault None x b a fault = IsUnsettled x b a fault
IsEndFault (Some played) x b a fault = (fault ≡ played) × (IsSettled x b a ⊎ ((other : WorkFault) × IsUnsettled x b a other))

-- a session that is settled is recorded, and one that is parked waits in its client's slot; the play had no fault then
abbrev pub IsLeft : Option WorkFault → Session → BoardView → BoardView → Ended → Type 0
IsLeft played x b a Settled = (played ≡ None) × IsSettled x b a
IsLeft played x b a Parked = (played ≡ None) × (a ≡ with_parked b x.start.number (Some x))
IsLeft played x b a (Fault fault) = IsEndFault played x b a fault

-- a turn with a fault sets the stop mark, and no other changes it
abbrev pub IsMarkedBy : Ended → Bool → Bool → Type 0
IsMarkedBy Settled before after = after ≡ before
IsMarkedBy Parked before after = after ≡ before
IsMarkedBy (Fault fault) before after = after ≡ true

-- one more action of the client is typed
abbrev pub with_typed : List ℕ → ℕ → List ℕ
with_typed typed c = set typed c (min (slice_index_or typed c 0 + 1) (2 ^ 64 - 1))

-- what is typed after a turn without a fault: one action more, where the turn had one
abbrev pub with_action : Task → ℕ → List ℕ → List ℕ
with_action Read c typed = typed
with_action (Enter None) c typed = typed
with_action (Enter (Some action)) c typed = with_typed typed c

-- a turn with a fault types nothing
abbrev pub typed_by : Task → Ended → ℕ → List ℕ → List ℕ
typed_by task Settled c typed = with_action task c typed
typed_by task Parked c typed = with_action task c typed
typed_by task (Fault fault) c typed = typed
