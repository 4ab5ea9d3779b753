-- Sessions: a client's steps on its part, off the table, and how they come back to it.
use Rattle.std.specs.Prelude.{◌≡◌, ℕ, ◌≤◌, ◌≢◌, List, [], ◌++◌, length, map, set, drop, slice_get, true, Option, Some, None}
use Rattle.ot_isa.specs.declared.instruction.Instr.{Instr}
use Rattle.ot_isa.specs.declared.instruction.Instr.TheVariants.{Edit, Take, Deliver, Acknowledge, Read, Join, ReadServer}
use Rattle.ot_model.specs.declared.shown.Shown.{Shown}
use Rattle.ot_model.specs.Table.{is_joined, Client, State, Message, Head, head_for, downlink, Outcome, Performed, Refused, NoRow, run}
use Rattle.ot_model.specs.Sound.{IsSound, AreInstrs}
use Rattle.ot_model.specs.Part.{Part, part_of, silent, Leads}
use Rattle.ot_model.specs.declared.limits.TheConstants.{SESSION_LIMIT}

-- the part is a joined client's, as it is in the state
pub record IsPartIn (s : State) (p : Part) : Type 0 where
  pub client : Client
  pub at : slice_get s.clients p.number ≡ Some client
  pub joined : is_joined client.phase ≡ true
  pub part_is : p ≡ part_of s p.number client

-- the part is a joined client's in some sound state
pub record IsSoundPart (p : Part) : Type 0 where
  pub state : State
  pub sound : IsSound state
  pub part_in : IsPartIn state p

-- a session: the part that it began with, the steps that it made, and the part as it is now
pub record Session : Type 0 where
  pub start : Part
  pub steps : List Instr
  pub now : Part

-- the type invariant of sessions: the start is a client's part in a sound state, and the rows of its client lead from it by these
-- at most 64 steps, none refused, to the present part
pub record IsAllowed (x : Session) : Type 0 where
  pub start : IsSoundPart x.start
  pub few : length x.steps ≤ SESSION_LIMIT
  pub instrs : AreInstrs x.steps
  pub leads : Leads x.start x.steps x.now

-- the part's client is here and as in the part, its message apart, and the part's messages begin its downlink
pub record Begins (p : Part) (s : State) : Type 0 where
  pub client : Client
  pub at : slice_get s.clients p.number ≡ Some client
  pub joined : is_joined client.phase ≡ true
  pub same : silent client ≡ silent p.client
  pub rest : List Head
  pub downlink_is : downlink s p.number client ≡ p.incoming ++ rest

-- the instructions lead from a state to a state, none refused, and show these lists
abbrev pub RunsShowing : State → List Instr → State → List Shown → Type 0
RunsShowing s is t shown = run is (record { state = s; shown = [] }) ≡ Some (record { state = t; shown = shown })

-- the instructions lead from a state to a state, none refused
abbrev pub RunsTo : State → List Instr → State → Type 0
RunsTo s is t = (shown : List Shown) × RunsShowing s is t shown

-- what is on the uplink: what a session sent, or else what was there before
abbrev pub or_else : Option Message → Option Message → Option Message
or_else None m = m
or_else (Some n) m = Some n

-- the client as a session leaves it, where m was on its uplink
abbrev pub installed : Client → Option Message → Client
installed x m = record { revision = x.revision; phase = x.phase; list = x.list; count = x.count; message = or_else x.message m }

-- the state with the part's client in place of what it was, m on its uplink before, after n steps in all
abbrev pub install : State → Part → Option Message → ℕ → State
install s p m n = record { log = s.log; server = s.server; clients = set s.clients p.number (installed p.client m); steps = n }

-- the part is its client as it is in the state, where m was on its uplink before, and its messages begin its downlink
pub record BeginsOver (p : Part) (s : State) (m : Option Message) (rest : List Head) : Type 0 where
  pub client : slice_get s.clients p.number ≡ Some (installed p.client m)
  pub joined : is_joined p.client.phase ≡ true
  pub downlink : map (head_for p.number) (drop p.client.revision s.log) ≡ p.incoming ++ rest

-- an instruction that is not the part's client's own, save a Take, a Join or a Read
abbrev pub IsOthers : Part → Instr → Type 0
IsOthers p (Edit d op) = d ≢ p.number
IsOthers p (Take d) = Unit {0}
IsOthers p (Deliver d) = d ≢ p.number
IsOthers p (Acknowledge d) = d ≢ p.number
IsOthers p (Join d) = Unit {0}
IsOthers p (Read d) = Unit {0}
IsOthers p ReadServer = Unit {0}

-- the part begins its client in the state that an instruction leads to
abbrev pub IsWaiting : Part → Outcome → Type 0
IsWaiting p (Performed t shown) = Begins p t
IsWaiting p (Refused r) = Unit {0}
IsWaiting p NoRow = Unit {0}
